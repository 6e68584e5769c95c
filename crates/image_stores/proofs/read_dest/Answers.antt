use Rattle.machine.specs.Sizes.{dest_count, half_most}
use Rattle.format.proofs.Fields.{both_read, kind_read, numbers_read}
use Rattle.image_layout.specs.Marks.{marks_format}
use Rattle.image_layout.specs.Image.{dest_record, marks_record, marks_size}
use Rattle.image_layout.specs.Places.{dest_at, marks_at}
use Rattle.image_stores.proofs.read_dest.Goals as goal

pub returns : goal.returns
returns c =
    let s = c.args.s.now in
    both_read dest_record marks_record dest_at s
    (numbers_read 4 2 half_most dest_count dest_at s c.told-dest c.read_run.ensures)
    (kind_read 5 (marks_format marks_size) marks_at s c.read_marks.ensures)
