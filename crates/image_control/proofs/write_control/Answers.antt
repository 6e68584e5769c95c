use native.Mathlib.Omega.{arith}
use Rattle.format.proofs.Writes.{wrote_next}
use Rattle.image_control.proofs.write_control.Goals as goal

pub returns : goal.returns
returns c =
    wrote_next (omega arith) c.write_head.ensures
    (λ h. wrote_next h
    (wrote_next h c.write_locks.ensures (λ _. c.write_waits.ensures))
    (λ _. c.write_banks.ensures))
