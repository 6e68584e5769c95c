use Prim.Native.Nat.{◌+◌}
use native.Mathlib.Omega.{arith}
use Rattle.format.proofs.Writes.{wrote_next, wrote_to, wrote_from}
use Rattle.program_carried.specs.CarriedFormat.{load_bytes}
use Rattle.program_carried.proofs.write_numbers.Goals as goal

pub returns : goal.returns
returns c =
    let at = c.args.at in
    wrote_to (at + load_bytes) (omega arith)
    (wrote_next (omega arith) c.write.ensures
    (λ h. wrote_next h c.write-2.ensures
    (λ h. wrote_next h (wrote_from (at + 5) (omega arith) c.write-3.ensures)
    (λ _. wrote_from (at + 9) (omega arith) c.write-4.ensures))))
