use native.Mathlib.Omega.{arith}
use Rattle.machine.specs.Sizes.{source_count, cell_most}
use Rattle.format.proofs.Writes.{wrote_next, wrote_numbers}
use Rattle.image_layout.specs.Image.{image_size}
use Rattle.image_layout.specs.Places.{source_a_at, source_b_at}
use Rattle.image_stores.proofs.write_sources.Goals as goal

pub returns : goal.returns
returns c =
    let a = c.args in
    let src_a = wrote_numbers 6 3 cell_most source_count source_a_at source_b_at a.src_a.now c.told-src_a (omega arith) c.write_record.ensures in
    wrote_next (omega arith) src_a
    (λ h. wrote_numbers 7 3 cell_most source_count source_b_at image_size a.src_b.now c.told-src_b (omega arith) c.write_record-2.ensures)
