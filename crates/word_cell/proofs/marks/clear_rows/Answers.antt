use Rattle.std.proofs.Common.{sym, ◌∙◌, arith}
use Rattle.word_rules.proofs.MarkLaws.{clear_step, clear_none}
use Rattle.word_cell.proofs.marks.clear_rows.Goals as goal

pub loop-row-preserved : goal.loop-row-preserved
loop-row-preserved c = rw c.clear_row.ensures (sym (clear_step _ _ _ _ _ c.loop-row-test.true) ∙ c.loop-row.invariant)

pub returns : goal.returns
returns c = sym (clear_none _ _ _ _ _ (omega arith)) ∙ c.loop-row.invariant
