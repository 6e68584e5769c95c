use native.Mathlib.Omega.{arith}
use Rattle.bits.proofs.Choices.{and_assoc, and_true}
use Rattle.bits.proofs.Ranges.{at_most_max, at_most_step, at_most_end}
use Rattle.bits.proofs.words_at_most.Goals as goal

pub loop-word-preserved : goal.loop-word-preserved
loop-word-preserved c =
    rw (c.max-greatest.ensures, at_most_max, and_assoc, ← at_most_step c.args.most c.args.a.now c.loop-word.word-index c.loop-word-test.true) c.loop-word.invariant

pub returns : goal.returns
returns c = rw (← c.loop-word.invariant, at_most_end _ _ _ c.loop-word-test.false (omega arith), and_true)
