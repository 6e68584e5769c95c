use Rattle.format.proofs.Writes.{wrote_to, wrote_next}
use native.Mathlib.Omega.{arith}
use Rattle.format.proofs.run.write_head.Goals as goal

pub returns : goal.returns
returns c =
    wrote_to _ (omega arith) (wrote_next (omega arith) c.write.ensures (λ h. c.write-2.ensures))
