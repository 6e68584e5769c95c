use Prim.Native.Nat.{◌*◌, ◌≤◌}
use native.Mathlib.Nat.{mul-le-mul_left}
use native.Mathlib.Omega.{arith}
use lib.ListN.{length}
use Rattle.format.proofs.Writes.{wrote_next}
use Rattle.image_stores.proofs.write_record.Goals as goal

pub overflow_cast-src : goal.overflow_cast-src
overflow_cast-src g c =
    let small : length c.args.src.now * g.row.W ≤ length c.args.src.now * 4 = mul-le-mul_left (length c.args.src.now) (omega arith) in
    omega arith

pub returns : goal.returns
returns g c = wrote_next (omega arith) c.write_head.ensures (λ h. c.write_run.ensures)
