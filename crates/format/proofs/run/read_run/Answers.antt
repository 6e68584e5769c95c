use Rattle.std.proofs.Common.{refl, ap, ◌∙◌, arith}
use Rattle.format.proofs.Runs.{reading_starts, reading_goes, reading_ends}
use Rattle.format.proofs.run.read_run.Goals as goal

pub loop-i-init : goal.loop-i-init
loop-i-init g c = reading_starts refl

pub loop-i-preserved : goal.loop-i-preserved
loop-i-preserved g c = reading_goes c.loop-i.invariant (omega arith) (c.narrow.ensures ∙ ap g.T.Number.of c.read.ensures.value)

pub returns : goal.returns
returns g c = reading_ends c.loop-i.invariant (omega arith)
