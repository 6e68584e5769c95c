use Rattle.std.proofs.Common.{true, false}
use Rattle.word_rules.specs.CellWords.{cell_after}
use Rattle.word_rules.proofs.Offering.{store_held_up, store_going}
use Rattle.word_cell.proofs.trnsp_src_b.Goals as goal

pub returns-in-Some : goal.returns-in-Some
returns-in-Some c t bankA s k = store_held_up true true _ _ t bankA _ _ s _ _ c.in-Some.ensures

pub returns-then-not-owned : goal.returns-then-not-owned
returns-then-not-owned c t bankA s k = rw c.if-not-owned.true (store_going true true _ false t bankA _ _ s _ c.in_default.ensures)

pub returns : goal.returns
unfolding cell_after
returns c t bankA s k =
    rw (c.if-not-owned.false, c.transpose_face.ensures.whole, c.row_place.ensures) (store_going true true _ true t bankA _ _ s _ c.in_default.ensures)
