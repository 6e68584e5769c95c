use Rattle.std.proofs.Common.{true}
use Rattle.word_rules.specs.ConfigWords.{config_after, config_settings}
use Rattle.word_rules.proofs.Offering.{store_held_up, store_going}
use Rattle.word_config.proofs.rmw_cib.Goals as goal

pub returns-in-Some : goal.returns-in-Some
returns-in-Some c gprs owned bankA bankB k = store_held_up true true _ owned _ bankA bankB _ _ _ _ c.in-Some.ensures

pub returns : goal.returns
unfolding config_after config_settings
returns c gprs owned bankA bankB k =
    rw (c.with_merged.ensures, c.new_bits.ensures, c.byte_mask.ensures, c.config_place-place.ensures, c.byte_index.ensures, c.bank_of.ensures)
    (store_going true true _ owned _ bankA bankB _ _ _ c.in_default.ensures)
