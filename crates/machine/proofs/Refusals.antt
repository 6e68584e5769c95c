-- Refusals told apart.
use Prim.Native.Nat.{ℕ, zero, suc}
use mathlib.Core.Path.{◌≡◌}
use mathlib.Core.Bool.{cond}
use mathlib.Core.List.{List, [], ◌∷◌}
use native.Mathlib.Omega.{arith}
use lib.Dec.{eqb}
use lib.ListN.{length}
use types.Run.{OneOf, miss}
use denote.Enum.Declared.{tag_of}
use Rattle.machine.specs.declared.refusal.Refusal.{Refusal}
use Rattle.machine.specs.declared.refusal.Refusal.TheVariants.{BadThread, BadWord, BadField, BadLength, BadCursor, BadBudget, BadRounds, ShortOutput, BadImage, Malformed, BadPlace, WrongOwner, BadReplay}
use Rattle.machine.specs.Numbers.{number_of, values_of}
use Rattle.machine.specs.contracts.refusal.Refusal.{the_type}

-- the numbers from `first` on, `count` of them, but k
abbrev others_from : ℕ → ℕ → ℕ → List ℕ
others_from first zero k = []
others_from first (suc count) k =
    cond (eqb first k) (others_from (suc first) count k) (first ∷ others_from (suc first) count k)

-- the variants but one, however many there are
abbrev pub other_variants : ℕ → List ℕ
other_variants k = others_from 0 (length the_type.parts) k

-- what a `let .. else` that names refusal 9 knows where it does not fit
pub not_bad_image : {A : Type 0} (r : Refusal) (at : ℕ) → r ≡ BadImage at → OneOf (other_variants 8) (tag_of the_type r) → A
not_bad_image r at e k = absurd (miss (other_variants 8) 8 tt (rw e at k))

-- by its number
pub nine_means : (r : Refusal) (at : ℕ) → number_of r ≡ 9 → values_of r ≡ at ∷ [] → r ≡ BadImage at
nine_means (BadImage n) at e v = cc
nine_means BadThread at e v = absurd (omega arith)
nine_means BadWord at e v = absurd (omega arith)
nine_means BadField at e v = absurd (omega arith)
nine_means BadLength at e v = absurd (omega arith)
nine_means BadCursor at e v = absurd (omega arith)
nine_means BadBudget at e v = absurd (omega arith)
nine_means BadRounds at e v = absurd (omega arith)
nine_means ShortOutput at e v = absurd (omega arith)
nine_means Malformed at e v = absurd (omega arith)
nine_means BadPlace at e v = absurd (omega arith)
nine_means WrongOwner at e v = absurd (omega arith)
nine_means BadReplay at e v = absurd (omega arith)
