use native.Mathlib.Omega.{arith}
use lib.ListN.{length-append}
use Rattle.bits.proofs.Bytes.{enc_long}
use Rattle.machine.proofs.Semaphores.{zero_semaphore}
use Rattle.format.proofs.Writes.{wrote_to}
use Rattle.format.proofs.Runs.{writing_starts, writing_goes, writing_ends}
use Rattle.image_control.proofs.write_semaphores.Goals as goal

pub loop-i-init : goal.loop-i-init
loop-i-init c = writing_starts

pub loop-i-preserved : goal.loop-i-preserved
loop-i-preserved c =
    let wrote = c.write_semaphore.ensures.list in
    writing_goes c.loop-i.invariant (omega arith) (omega arith) zero_semaphore wrote (simp (length-append, enc_long))

pub returns : goal.returns
returns c = wrote_to _ (omega arith) (writing_ends c.loop-i.invariant (λ s. simp (length-append, enc_long)) (omega arith))
