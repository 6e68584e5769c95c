use Rattle.word_rules.proofs.Masks.{change_step, change_end}
use lib.ListN.{length-set}
use native.Mathlib.Omega.{arith}
use mathlib.Core.Path.{sym, ◌∙◌}
use Rattle.word_control.proofs.semaphores.change_masked.Goals as goal

pub loop-s-preserved : goal.loop-s-preserved
loop-s-preserved c =
    (simp length-set c.loop-s.invariant.0, c.loop-s.invariant.1 ∙ change_step _ c.loop-s.s-items c.loop-s.s-index _ _ (omega arith) c.changed_if.ensures)

pub returns : goal.returns
returns c = sym (c.loop-s.invariant.1 ∙ change_end _ _ _ _ (omega arith))
