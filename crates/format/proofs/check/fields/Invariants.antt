use Rattle.format.specs.Format.{num_good}
use Rattle.format.proofs.Fields.{Checking}
use Rattle.format.proofs.check.fields.Given as goal

abbrev pub invariant-loop-i : goal.invariant-loop-i
invariant-loop-i g l = Checking (num_good g.row.W 0 l.hi) g.row.W l.s l.at l.n l.i
