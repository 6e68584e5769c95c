use native.Mathlib.Omega.{arith}
use Rattle.machine.specs.Sizes.{dest_count, half_most}
use Rattle.format.proofs.Writes.{wrote_next, wrote_numbers}
use Rattle.image_layout.specs.Places.{dest_at, marks_at}
use Rattle.image_stores.proofs.write_dest.Goals as goal

pub returns : goal.returns
returns c =
    let dest = wrote_numbers 4 2 half_most dest_count dest_at marks_at c.args.dest.now c.told-dest (omega arith) c.write_record.ensures in
    wrote_next (omega arith) dest (λ h. wrote_next h c.write_head.ensures (λ k. c.write_marks.ensures))
