use Rattle.std.proofs.Common.{true}
use Rattle.word_rules.specs.ConfigWords.{config_after, config_settings}
use Rattle.word_rules.proofs.Offering.{store_held_up, store_going}
use Rattle.word_config.proofs.set_c16.Goals as goal

pub returns-in-Some : goal.returns-in-Some
returns-in-Some c gprs config owned bankA bankB k = store_held_up true true _ owned _ bankA bankB _ _ _ _ c.in-Some.ensures

pub returns : goal.returns
unfolding config_after config_settings
returns c gprs config owned bankA bankB k =
    rw (c.setting_place.ensures, c.entry_value.ensures, c.entry.ensures)
    (store_going true true _ owned _ bankA bankB _ _ _ c.in_default.ensures)
