use Rattle.std.proofs.Common.{true}
use Rattle.word_rules.specs.ScalarWords.{scalar_after}
use Rattle.word_rules.proofs.Offering.{store_held_up, store_going}
use Rattle.word_scalar.proofs.set_dma_reg.Goals as goal

pub returns-in-Some : goal.returns-in-Some
returns-in-Some c owned bankA bankB s k =
    rw (← c.is_plain.ensures) (store_held_up c.is_plain.result true _ owned _ bankA bankB _ s _ _ c.in-Some.ensures)

pub returns : goal.returns
unfolding scalar_after
returns c owned bankA bankB s k =
    rw (c.with_half.ensures, c.half_place-place.ensures, c.value.ensures, c.half-half.ensures, ← c.is_plain.ensures)
    (store_going c.is_plain.result true _ owned _ bankA bankB _ s _ c.in_default.ensures)
