use Rattle.machine.specs.Sizes.{gpr_count, config_count, word_most}
use Rattle.format.proofs.Fields.{both_read, numbers_read}
use Rattle.image_layout.specs.Image.{config_kind, gprs_record, config_record}
use Rattle.image_layout.specs.Places.{gprs_at, config_at}
use Rattle.image_stores.proofs.read_word_stores.Goals as goal

pub returns : goal.returns
returns c =
    let s = c.args.s.now in
    both_read gprs_record (config_record config_kind config_count) gprs_at s
    (numbers_read 2 4 word_most gpr_count gprs_at s c.told-gprs c.read_run.ensures)
    (numbers_read config_kind 4 word_most config_count config_at s c.told-config c.read_run-2.ensures)
