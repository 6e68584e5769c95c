use lib.ListN.{length}
use Rattle.bits.specs.Bytes.{le}
use Rattle.format.proofs.Runs.{Reading}
use Rattle.format.proofs.run.read_run.Given as goal

abbrev pub invariant-loop-i : goal.invariant-loop-i
invariant-loop-i g l = Reading (λ b. g.T.Number.of (le g.row.W b)) g.row.W l.s l.at (length l.initial.dst) l.dst l.i
