use Prim.Native.Nat.{ℕ, ◌+◌}
use mathlib.Core.Path.{ap}
use native.Mathlib.Omega.{arith}
use lib.ListN.{length-set, length-append}
use Rattle.bits.proofs.Bytes.{enc_long}
use Rattle.format.proofs.Joins.{store_two}
use Rattle.image_control.proofs.write_semaphore.Goals as goal

pub returns : goal.returns
returns c =
    let a = c.args in
    let two = store_two a.out.now a.at a.s.value a.s.maximum (omega arith) (omega arith) (omega arith) in
    record { placed = ap (λ (n : ℕ). a.at + n) (simp (length-append, enc_long)); list = two }

pub bounds-out-at-2 : goal.bounds-out-at-2
bounds-out-at-2 c = simp length-set (omega arith)
