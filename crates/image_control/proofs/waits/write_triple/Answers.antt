use Prim.Native.Nat.{◌+◌}
use native.Mathlib.Omega.{arith}
use Rattle.format.proofs.Writes.{wrote_next, wrote_to, wrote_from}
use Rattle.image_control.proofs.waits.write_triple.Goals as goal

pub returns : goal.returns
returns c =
    let at = c.args.at in
    wrote_to _ (omega arith)
    (wrote_next (omega arith) c.write.ensures
    (λ h. wrote_next h c.write-2.ensures
    (λ _. wrote_from (at + 3) (omega arith) c.write-3.ensures)))
