use native.Mathlib.Omega.{arith}
use Rattle.machine.specs.Sizes.{bank_count, pointer_count}
use Rattle.format.specs.Format.{numbers}
use Rattle.format.proofs.Fields.{both_good}
use Rattle.image_layout.specs.Places.{owners_at}
use Rattle.image_scan.proofs.control.banks_good.Goals as goal

pub returns : goal.returns
returns c =
    let good = both_good (numbers bank_count 1 1) (numbers pointer_count 1 1) owners_at c.args.s.now in
    (good c.good_across.ensures.0 c.fields-a.ensures.0 c.fields-b.ensures.0, omega arith)
