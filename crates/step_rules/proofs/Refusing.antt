-- An offered word is refused by 2 or 3 alone.
use Prim.Native.Nat.{ℕ}
use Rattle.machine.specs.Machine.{Machine}
use Rattle.machine.specs.Answers.{Told, accepted, refused}
use Rattle.word_rules.specs.declared.instruction.Instruction.{Instruction}
use Rattle.word_rules.specs.Table.{decode_of}
use Rattle.word_rules.proofs.Saying.{TwoOrThree, two_or_three}
use Rattle.word_rules.specs.Waits.{Gate, Open, Closed, gate_of}
use Rattle.step_rules.specs.Step.{by_gate, gated_of, by_decoded, offer_of}

module _ (m : Machine) (t : ℕ) where
  gated : (i : Instruction) (g : Gate) → TwoOrThree (by_gate m t i g).outcome
  gated i Open = tt
  gated i (Closed n cause) = tt

  decoded : (d : Told Instruction) → TwoOrThree d → TwoOrThree (by_decoded m t d).outcome
  unfolding gated_of
  decoded (accepted i) x = gated i (gate_of m.control t i)
  decoded (refused n vs) x = x

  pub offer_refuses : (w : ℕ) → TwoOrThree (offer_of m t w).outcome
  unfolding offer_of
  offer_refuses w = decoded (decode_of w) (two_or_three w)
