use Rattle.machine.specs.Sizes.{source_count, cell_most}
use Rattle.format.proofs.Fields.{both_read, numbers_read}
use Rattle.image_layout.specs.Image.{source_record}
use Rattle.image_layout.specs.Places.{source_a_at, source_b_at}
use Rattle.image_stores.proofs.read_sources.Goals as goal

pub returns : goal.returns
returns c =
    let s = c.args.s.now in
    both_read (source_record 6) (source_record 7) source_a_at s
    (numbers_read 6 3 cell_most source_count source_a_at s c.told-src_a c.read_run.ensures)
    (numbers_read 7 3 cell_most source_count source_b_at s c.told-src_b c.read_run-2.ensures)
