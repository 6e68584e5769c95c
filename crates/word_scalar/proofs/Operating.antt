-- ADDDMAREG and MULDMAREG offered, by the two ways that they can go, and DMANOP, which leaves all as it was either way.
use Rattle.std.proofs.Common.{ℕ, Bool, true, false, List, set, Option, Some, None}
use Rattle.std.specs.Option.{unwrap_or}
use Rattle.bits.specs.Field.{flag}
use Rattle.machine.specs.declared.refusal.Outcome.{Outcome}
use Rattle.machine.specs.declared.refusal.Outcome.TheVariants.{Passed}
use Rattle.machine.specs.Units.{gpr_place}
use Rattle.machine.specs.Answers.{accepted}
use Rattle.machine.specs.Outcomes.{passed, told_outcome}
use Rattle.word_rules.specs.ScalarWords.{dma_nop_of, result_of, operand_a_of, operand_b_of, gpr_of, operand_of, scalar_after}
use Rattle.word_rules.specs.Offered.{HeldUp, GprsOffered}
use Rattle.word_rules.proofs.Offering.{store_held_up, store_going}
use Rattle.word_scalar.specs.Arithmetic.{arithmetic_of, combined_of}

module _ (blocks t w : ℕ) (g : List ℕ) where
  pub arithmetic_held_up : (m : Bool) (o : Outcome) → HeldUp true true (flag 5 blocks) (Some o) → GprsOffered blocks t (arithmetic_of m w) g (told_outcome o) g
  arithmetic_held_up true o h owned a b u k = store_held_up true true blocks owned t a b _ u _ o h
  arithmetic_held_up false o h owned a b u k = store_held_up true true blocks owned t a b _ u _ o h

  pub arithmetic_done : (m : Bool) → HeldUp true true (flag 5 blocks) None →
      GprsOffered blocks t (arithmetic_of m w) g (accepted passed)
      (set g (gpr_place t (result_of w)) (combined_of m (gpr_of t (operand_a_of w) g) (operand_of t (operand_b_of w) g)))
  unfolding scalar_after
  arithmetic_done true h owned a b u k = store_going true true blocks owned t a b _ u _ h
  arithmetic_done false h owned a b u k = store_going true true blocks owned t a b _ u _ h

  pub nop_offered : (r : Option Outcome) → HeldUp true true (flag 5 blocks) r → GprsOffered blocks t (dma_nop_of w) g (told_outcome (unwrap_or r Passed)) g
  unfolding scalar_after
  nop_offered None h owned a b u k = store_going true true blocks owned t a b _ u _ h
  nop_offered (Some o) h owned a b u k = store_held_up true true blocks owned t a b _ u _ o h
