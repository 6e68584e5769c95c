use native.Mathlib.Omega.{arith}
use Rattle.format.proofs.Writes.{wrote_next}
use Rattle.image_control.proofs.write_waits.Goals as goal

pub returns : goal.returns
returns c =
    let two = wrote_next (omega arith) c.write_thread.ensures (λ h. c.write_thread-2.ensures) in
    wrote_next (omega arith) two (λ h. c.write_thread-3.ensures)
