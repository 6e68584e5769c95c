-- The cause of a stalled word, by its gate.
use Prim.Native.Nat.{ℕ}
use mathlib.Core.Path.{◌≡◌, refl, ◌∙◌}
use native.Mathlib.Omega.{arith}
use Rattle.machine.specs.Machine.{Machine}
use Rattle.machine.specs.Answers.{Told, accepted, refused}
use Rattle.machine.specs.Outcomes.{stalled}
use Rattle.word_rules.specs.declared.instruction.Instruction.{Instruction}
use Rattle.word_rules.specs.Table.{decode_of}
use Rattle.word_rules.specs.Waits.{Gate, Open, Closed, gate_of}
use Rattle.word_rules.specs.Causes.{StalledFor}
use Rattle.word_rules.proofs.Causes.{by_gate_lem}
use Rattle.step_rules.specs.Step.{by_gate, gated_of, by_decoded, offer_of}
use Rattle.step_rules.specs.Causes.{CausesHold}

module _ (m : Machine) (t w n cause : ℕ) where
  gated : (i : Instruction) → decode_of w ≡ accepted i → (g : Gate) → gate_of m.control t i ≡ g → (by_gate m t i g).outcome ≡ accepted (stalled n cause) →
      StalledFor m.control t w n cause
  gated i d Open eg e = let z : ◌≡◌ {A = ℕ} 0 1 = cc in absurd (omega arith)
  gated i d (Closed n' cause') eg e =
      let same : Closed n' cause' ≡ Closed n cause = cc in
      by_gate_lem m.control t w n cause i d (eg ∙ same)

  decoded : (d : Told Instruction) → decode_of w ≡ d → (by_decoded m t d).outcome ≡ accepted (stalled n cause) → StalledFor m.control t w n cause
  unfolding gated_of
  decoded (accepted i) d e = gated i d (gate_of m.control t i) refl e
  decoded (refused k vs) d e = let z : ◌≡◌ {A = ℕ} 0 1 = cc in absurd (omega arith)

pub causes_hold : CausesHold
unfolding offer_of
causes_hold m t w n cause e = decoded m t w n cause (decode_of w) refl e
