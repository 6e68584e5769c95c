use Rattle.std.proofs.Common.{ap, ◌∙◌}
use Rattle.bits.proofs.Bytes.{enc_long}
use Rattle.format.proofs.Runs.{writing_starts, writing_goes, writing_ends}
use Rattle.format.proofs.run.write_run.Goals as goal

pub loop-i-init : goal.loop-i-init
loop-i-init g c = writing_starts

pub loop-i-preserved : goal.loop-i-preserved
loop-i-preserved g c =
    let item = c.index-src-i in
    let value = c.wide.ensures.same ∙ ap g.T.Number.value item.is in
    writing_goes c.loop-i.invariant c.loop-i-test.true c.requires.room item.result (rw value at c.write.ensures.list) (enc_long _ _)

pub returns : goal.returns
returns g c = writing_ends c.loop-i.invariant (λ x. enc_long _ _) c.loop-i-test.false
