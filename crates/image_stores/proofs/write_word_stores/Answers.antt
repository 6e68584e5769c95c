use native.Mathlib.Omega.{arith}
use Rattle.machine.specs.Sizes.{gpr_count, config_count, word_most}
use Rattle.format.proofs.Writes.{wrote_next, wrote_numbers}
use Rattle.image_layout.specs.Image.{config_kind}
use Rattle.image_layout.specs.Places.{gprs_at, config_at, dest_at}
use Rattle.image_stores.proofs.write_word_stores.Goals as goal

pub returns : goal.returns
returns c =
    let a = c.args in
    let first = wrote_numbers 2 4 word_most gpr_count gprs_at config_at a.gprs.now c.told-gprs (omega arith) c.write_record.ensures in
    wrote_next (omega arith) first
    (λ h. wrote_numbers config_kind 4 word_most config_count config_at dest_at a.config.now c.told-config (omega arith) c.write_record-2.ensures)
