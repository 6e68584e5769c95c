use Rattle.std.proofs.Common.{true, false}
use Rattle.word_rules.specs.CellWords.{cell_after}
use Rattle.word_rules.proofs.Offering.{store_held_up, store_going}
use Rattle.word_cell.proofs.mov_b2a.Goals as goal

pub returns-in-Some : goal.returns-in-Some
returns-in-Some c t s k = rw (← c.no_addr_mod.ensures) (store_held_up _ true _ _ t _ _ _ s _ _ c.in-Some.ensures)

pub returns-then-not-owned : goal.returns-then-not-owned
returns-then-not-owned c t s k = rw (c.if-not-owned.true, ← c.no_addr_mod.ensures) (store_going _ true _ false t _ _ _ s _ c.in_default.ensures)

pub returns : goal.returns
unfolding cell_after
returns c t s k =
    rw (c.if-not-owned.false, c.copy_rows.ensures, ← c.no_addr_mod.ensures) (store_going _ true _ true t _ _ _ s _ c.in_default.ensures)
