use Rattle.std.proofs.Common.{◌≡◌, true, arith}
use Rattle.bits.specs.Field.{field, down_to_four}
use Rattle.machine.specs.Units.{gpr, gpr_place}
use Rattle.machine.specs.Places.{config_place}
use Rattle.word_rules.specs.ConfigWords.{bank_of, config_after, config_settings}
use Rattle.word_rules.proofs.Offering.{store_held_up, store_going}
use Rattle.word_config.proofs.wr_cfg.Goals as goal

pub returns-in-Some : goal.returns-in-Some
returns-in-Some c owned bankA bankB k =
    rw (← c.index_fine.ensures) (store_held_up true c.index_fine.result _ owned _ bankA bankB _ _ _ _ c.in-Some.ensures)

pub returns : goal.returns
unfolding config_after config_settings
returns c owned bankA bankB k =
    let a = c.args in
    let g = field 16 6 a.word in
    let n = field 0 11 a.word in
    let from : down_to_four (gpr_place a.t (gpr g)) ≡ gpr_place a.t (gpr (down_to_four g)) = omega arith in
    let to : down_to_four (config_place (bank_of a.settings.now a.t) n) ≡ config_place (bank_of a.settings.now a.t) (down_to_four n) = omega arith in
    rw (c.write_config.ensures, c.copies_four.ensures, c.config_place-to.ensures, c.index.ensures, c.bank_of.ensures, c.gpr_place-from.ensures, c.source.ensures, from, to, ← c.index_fine.ensures)
    (store_going true c.index_fine.result _ owned _ bankA bankB _ _ _ c.in_default.ensures)
