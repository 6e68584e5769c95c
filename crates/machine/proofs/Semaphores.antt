-- Laws of the test over every semaphore.
use Prim.Native.Nat.{zero, suc, ◌≤◌}
use mathlib.Core.Path.{◌≡◌, refl}
use mathlib.Core.Bool.{Bool, true, ◌&&◌}
use mathlib.Core.Logic.{◌↔◌}
use mathlib.Core.List.{List, [], ◌∷◌}
use native.Mathlib.Omega.{arith}
use lib.Dec.{leb}
use borrow.Author.Tests.{leb-true, le-leb}
use Rattle.std.specs.List.{All}
use Rattle.bits.proofs.Choices.{and_left, and_right, and_intro, same_tests}
use Rattle.machine.specs.declared.control.Semaphore.{Semaphore}
use Rattle.machine.specs.Sizes.{semaphore_most}
use Rattle.machine.specs.Formed.{semaphores_formed}

abbrev pub zero_semaphore : Semaphore
zero_semaphore = record { value = 0; maximum = 0 }

abbrev pub InRange : Semaphore → Type 0
InRange s = (s.value ≤ semaphore_most) × (s.maximum ≤ semaphore_most)

abbrev in_range : Semaphore → Bool
in_range s = leb s.value semaphore_most && leb s.maximum semaphore_most

to_each : (l : List Semaphore) → semaphores_formed l ≡ true → All InRange l
unfolding semaphores_formed
to_each [] e k d p = absurd (omega arith)
to_each (s ∷ l) e zero d p =
    let h = and_left (in_range s) (semaphores_formed l) e in
    (leb-true _ _ (and_left _ _ h), leb-true _ _ (and_right (leb s.value semaphore_most) _ h))
to_each (s ∷ l) e (suc k) d p = to_each l (and_right (in_range s) (semaphores_formed l) e) k d (omega arith)

of_each : (l : List Semaphore) → All InRange l → semaphores_formed l ≡ true
unfolding semaphores_formed
of_each [] h = refl
of_each (s ∷ l) h =
    let p = h 0 zero_semaphore (omega arith) in
    and_intro (in_range s) (semaphores_formed l) (and_intro _ _ (le-leb _ _ p.0) (le-leb _ _ p.1)) (of_each l (λ k d q. h (suc k) d (omega arith)))

-- what an iterator's `all` answers
pub all-semaphores : (l : List Semaphore) (r : Bool) → (r ≡ true) ↔ All InRange l → r ≡ semaphores_formed l
all-semaphores l r i = same_tests r (semaphores_formed l) (λ e. of_each l (i.0 e)) (λ e. i.1 (to_each l e))
