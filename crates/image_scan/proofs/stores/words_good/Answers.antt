use native.Mathlib.Omega.{arith}
use Rattle.format.proofs.Fields.{both_good}
use Rattle.image_layout.specs.Image.{gprs_record, config_record}
use Rattle.image_layout.specs.Places.{gprs_at}
use Rattle.image_scan.proofs.stores.words_good.Goals as goal

pub returns : goal.returns
returns c =
    let a = c.args in
    let good = both_good gprs_record (config_record a.kind a.words) gprs_at a.s.now in
    (good c.good_across.ensures.0 c.record-a.ensures.0 c.record-b.ensures.0, omega arith)
