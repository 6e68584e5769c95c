use Rattle.word_rules.specs.CellWords.{cell_after}
use Rattle.word_rules.proofs.Offering.{store_held_up, store_going}
use Rattle.word_cell.proofs.zero_acc.Goals as goal

pub returns-in-Some : goal.returns-in-Some
returns-in-Some c owned bankA bankB k =
    rw (← c.no_addr_mod.ensures, ← c.place_fine.ensures) (store_held_up _ _ _ owned _ bankA bankB _ _ _ _ c.in-Some.ensures)

pub returns : goal.returns
unfolding cell_after
returns c owned bankA bankB k =
    rw (c.zero_marks.ensures.whole, c.of.ensures.0, c.of.ensures.1, c.of.ensures.2, c.bank_of-bank.ensures, ← c.no_addr_mod.ensures, ← c.place_fine.ensures)
    (store_going _ _ _ owned _ bankA bankB _ _ _ c.in_default.ensures)
