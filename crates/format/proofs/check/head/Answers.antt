use Rattle.format.proofs.Fields.{both_good}
use native.Mathlib.Omega.{arith}
use Rattle.format.specs.Format.{fixed}
use Rattle.format.proofs.check.head.Goals as goal

pub returns : goal.returns
returns c =
    let a = c.args in
    let good = both_good (fixed 4 a.n) (fixed 2 a.k) a.at a.s.now in
    (good c.good_across.ensures.0 c.field-a.ensures.0 c.field-b.ensures.0, omega arith)
