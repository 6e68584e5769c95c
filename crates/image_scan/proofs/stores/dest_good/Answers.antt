use native.Mathlib.Omega.{arith}
use Rattle.format.proofs.Fields.{both_good}
use Rattle.image_layout.specs.Image.{dest_record, marks_record}
use Rattle.image_scan.proofs.stores.dest_good.Goals as goal

pub returns : goal.returns
returns c =
    let a = c.args in
    let good = both_good dest_record marks_record a.at a.s.now in
    (good c.good_across.ensures.0 c.record-a.ensures.0 c.record-b.ensures.0, omega arith)
