-- When a word passes, and what a call of `step` then is.
use Prim.Native.Nat.{ℕ, ◌<◌}
use mathlib.Core.Path.{◌≡◌, refl, sym, ap, ◌∙◌}
use mathlib.Core.Bool.{true, false, ◌&&◌}
use Rattle.bits.specs.Field.{flag}
use Rattle.machine.specs.declared.control.Control.{Control}
use Rattle.machine.specs.Control.{wait_of}
use mathlib.Core.List.{List}
use native.Mathlib.Omega.{arith}
use borrow.Author.Tests.{le-leb}
use Rattle.bits.proofs.Choices.{and_left, and_right}
use Rattle.machine.specs.Formed.{sized, formed, well_formed}
use Rattle.machine.specs.Machine.{Machine}
use Rattle.machine.specs.declared.refusal.Refusal.{Refusal}
use Rattle.std.specs.Prelude.{Result, Ok}
use Rattle.machine.specs.Answers.{accepted, refused, told}
use Rattle.word_rules.specs.declared.instruction.ConfigWord.{ConfigWord}
use Rattle.word_rules.specs.declared.instruction.ScalarWord.{ScalarWord}
use Rattle.word_rules.specs.declared.instruction.Instruction.{Instruction}
use Rattle.word_rules.specs.declared.instruction.Instruction.TheVariants.{Scalar, Config}
use Rattle.word_rules.specs.Table.{decode_of}
use Rattle.word_rules.specs.Waits.{held_by, holds_now, wait_block, wait_gate, Gate, Open, gate_of}
use Rattle.word_rules.proofs.Deciding.{unheld}
use Rattle.step_rules.specs.Step.{stepped, pass_of, by_gate, gated_of, check_of, step_of}
use Rattle.step_rules.proofs.Ways.{offered_as, call_offered}
use Rattle.acceptance.specs.Worked.{Unstalled}

abbrev granted : Result (Unit {0}) Refusal
granted = Ok tt

fine : (m : Machine) (t : ℕ) → well_formed m ≡ true → t < 3 → told granted ≡ check_of m t
unfolding check_of
fine m t e h = rw (and_left (sized m) (formed m) e, and_right (sized m) (formed m) e, le-leb t 2 (omega arith))

gate_open : (m : Machine) (t : ℕ) (i : Instruction) → gate_of m.control t i ≡ Open → pass_of m t i ≡ gated_of m t i
unfolding gated_of
gate_open m t i g = ap (λ (x : Gate). by_gate m t i x) (sym g)

passing : (m : Machine) (t w : ℕ) (i : Instruction) → well_formed m ≡ true → t < 3 → decode_of w ≡ accepted i →
    gate_of m.control t i ≡ Open → step_of m t w ≡ pass_of m t i
passing m t w i e h d g =
    let offered = gate_open m t i g ∙ offered_as m t w (accepted i) d in
    sym (call_offered m t granted (fine m t e h) w (pass_of m t i) tt refl offered)

pub refusing : (m : Machine) (t w n : ℕ) (vs : List ℕ) → well_formed m ≡ true → t < 3 → decode_of w ≡ refused n vs →
    step_of m t w ≡ stepped (refused n vs) m
refusing m t w n vs e h d =
    let offered = offered_as m t w (refused n vs) d in
    sym (call_offered m t granted (fine m t e h) w (stepped (refused n vs) m) tt refl offered)

-- a wait that doesn't stall these words leaves a gate open
open_now : (c : Control) (t b : ℕ) → (flag b (wait_block (wait_of c t)) && holds_now c (wait_of c t)) ≡ false →
    wait_gate (held_by c (wait_of c t)) (flag b (wait_block (wait_of c t))) Open ≡ Open
open_now c t b e = unheld (held_by c (wait_of c t)) (flag b (wait_block (wait_of c t))) Open e

pub scalar_passes : (m : Machine) (t w : ℕ) (s : ScalarWord) → Unstalled 5 m t → decode_of w ≡ accepted (Scalar s) → step_of m t w ≡ pass_of m t (Scalar s)
unfolding gate_of
scalar_passes m t w s r d =
    passing m t w (Scalar s) r.formed r.thread d (open_now m.control t 5 r.unstalled)

pub config_passes : (m : Machine) (t w : ℕ) (s : ConfigWord) → Unstalled 7 m t → decode_of w ≡ accepted (Config s) → step_of m t w ≡ pass_of m t (Config s)
unfolding gate_of
config_passes m t w s r d =
    passing m t w (Config s) r.formed r.thread d (open_now m.control t 7 r.unstalled)
