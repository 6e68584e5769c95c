use Rattle.std.proofs.Common.{arith}
use Rattle.format.specs.Format.{numbers}
use Rattle.format.proofs.Fields.{kind_good}
use Rattle.format.proofs.check.record.Goals as goal

pub returns : goal.returns
returns g c =
    let a = c.args in
    let good = kind_good a.k (numbers a.n g.row.W a.hi) a.at a.s.now in
    (good c.good_across.ensures.0 c.head-h.ensures.0 c.fields-b.ensures.0, omega arith)
