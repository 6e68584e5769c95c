-- Lent slices that are taken as arrays, each of its part's size.
use Prim.Native.Nat.{ℕ}
use mathlib.Core.Path.{◌≡◌, refl}
use mathlib.Core.Bool.{Bool, true, false}
use mathlib.Core.List.{List}
use mathlib.Core.Logic.{◌≢◌}
use lib.ListN.{length}
use Rattle.std.specs.Prelude.{Option, Some, None, MatchOption}
use Rattle.std.specs.Borrow.{MutBor}
use Rattle.std.specs.Array.{IsWholeChunk}
use Rattle.machine.specs.Machine.{Machine}
use Rattle.machine.specs.Formed.{sized}
use Rattle.machine.proofs.StoreFacts.{SizedFacts, sized_facts}

-- an array is the slice that it was taken of, which has its size; none is taken of another
module _ {A : Type 0} (xs : List A) (n : ℕ) where
  pub taken_mut : {o : Option (MutBor (List A))} {y : MutBor (List A)} → o ≡ Some y → MatchOption o (length xs ≢ n) (λ z. IsWholeChunk xs z.now n) →
      (y.now ≡ xs) × (length xs ≡ n)
  taken_mut e m = let k = rw e at m in (k.same, k.long)

  pub not_taken : {o : Option (MutBor (List A))} → o ≡ None → MatchOption o (length xs ≢ n) (λ z. IsWholeChunk xs z.now n) → length xs ≢ n
  not_taken e m = rw e at m

-- a machine one of whose parts has not its size
pub unsized : (m : Machine) → (SizedFacts m.settings m.kept → ⊥) → sized m ≡ false
unsized m h = go (sized m) refl
  where
    go : (b : Bool) → sized m ≡ b → b ≡ false
    go true e = absurd (h (sized_facts m e))
    go false e = refl
