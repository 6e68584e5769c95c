use Rattle.std.proofs.Common.{refl, arith}
use Rattle.word_rules.proofs.PartsCleared.{part_filled, in_either_view, mode_2_clears_half, mode_3_clears_all}
use Rattle.word_rules.proofs.MarkLaws.{rows_in_view, rows_cleared}
use Rattle.word_cell.proofs.marks.zero_marks.Goals as goal

pub returns-then-part-lt2-clause-rows : goal.returns-then-part-lt2-clause-rows
returns-then-part-lt2-clause-rows c =
    rw (c.clear_rows.ensures, c.row_count.ensures, c.first_row.ensures, c.flags_of-flags.ensures, c.config_place.ensures) (rows_cleared _ _ _ _ _)

pub returns : goal.returns
returns c =
    let a = c.args in
    let p = a.part.in_view in
    let room = rows_in_view _ _ _ (in_either_view (omega arith) p) in
    rw (c.clear_marks.ensures, c.row_count-2.ensures, c.first_row-2.ensures, ← part_filled a.bank a.config.now a.marks.now p (omega arith) (omega arith) room)
    (record { whole = refl; rows = rows_cleared _ _ _ _ _; half = mode_2_clears_half a.bank a.config.now a.marks.now p (omega arith); all = mode_3_clears_all a.bank a.config.now a.marks.now p (omega arith) })
