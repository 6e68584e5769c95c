use Rattle.bits.specs.Bytes.{enc}
use Rattle.format.proofs.Runs.{Writing}
use Rattle.format.proofs.run.write_run.Given as goal

abbrev pub invariant-loop-i : goal.invariant-loop-i
invariant-loop-i g l = Writing (λ x. enc g.row.W (g.T.Number.value x)) g.row.W l.initial.out l.at l.src l.out l.i
