-- A lifted wait dropped, told by a test or by the definition.
use Prim.Native.Nat.{ℕ}
use mathlib.Core.Path.{◌≡◌, refl, ap, ◌∙◌}
use mathlib.Core.Bool.{Bool, true, false, cond, not}
use Rattle.machine.specs.declared.control.Wait.{Wait}
use Rattle.machine.specs.declared.control.Wait.TheVariants.{Clear, OnStall, OnSemaphore}
use Rattle.machine.specs.declared.control.Control.{Control}
use Rattle.machine.specs.Control.{wait_of, with_wait}
use Rattle.word_rules.specs.declared.instruction.Instruction.{Instruction}
use Rattle.word_rules.specs.Waits.{holds_now}
use Rattle.word_rules.specs.Offered.{lifted_now, dropped_if}
use Rattle.word_rules.specs.After.{drop_lifted, word_after, control_after}

either_way : {A : Type 0} (b : Bool) (x y : A) → cond (not b) x y ≡ cond b y x
either_way true x y = refl
either_way false x y = refl

dropped_lifted : (c : Control) (t : ℕ) (w : Wait) → dropped_if c t (lifted_now c w) ≡ drop_lifted c t w
dropped_lifted c t Clear = refl
dropped_lifted c t (OnStall b k) = either_way (holds_now c (OnStall b k)) (with_wait c t Clear) c
dropped_lifted c t (OnSemaphore b m k) = either_way (holds_now c (OnSemaphore b m k)) (with_wait c t Clear) c

-- the control part after a word that passes
pub dropped_after : (c : Control) (t : ℕ) (drops : Bool) (i : Instruction) → drops ≡ lifted_now c (wait_of c t) →
    word_after (dropped_if c t drops) t i ≡ control_after c t i
unfolding control_after
dropped_after c t drops i e =
    ap (λ (d : Control). word_after d t i) (ap (λ (b : Bool). dropped_if c t b) e ∙ dropped_lifted c t (wait_of c t))
