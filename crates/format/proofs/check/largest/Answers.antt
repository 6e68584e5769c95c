use Rattle.std.proofs.Common.{arith}
use Rattle.format.proofs.Fields.{largest_shift}
use Rattle.format.proofs.check.largest.Goals as goal

pub returns : goal.returns
returns g c = largest_shift g.row.W (omega arith) (omega arith)
