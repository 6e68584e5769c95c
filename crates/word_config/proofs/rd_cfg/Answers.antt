use Rattle.std.proofs.Common.{true}
use Rattle.word_rules.specs.ConfigWords.{config_after, config_settings}
use Rattle.word_rules.proofs.Offering.{store_held_up, store_going}
use Rattle.word_config.proofs.rd_cfg.Goals as goal

pub returns-in-Some : goal.returns-in-Some
returns-in-Some c owned bankA bankB k =
    let fine = c.target_and_index_fine in
    rw (← fine.ensures) (store_held_up true fine.result _ owned _ bankA bankB _ _ _ _ c.in-Some.ensures)

pub returns : goal.returns
unfolding config_after config_settings
returns c owned bankA bankB k =
    let fine = c.target_and_index_fine in
    rw (c.gpr_place.ensures, c.target.ensures, c.config_place-from.ensures, c.index.ensures, c.bank_of.ensures, ← fine.ensures)
    (store_going true fine.result _ owned _ bankA bankB _ _ _ c.in_default.ensures)
