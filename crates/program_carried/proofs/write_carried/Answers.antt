use Prim.Native.Nat.{◌+◌}
use mathlib.Core.Path.{◌≡◌}
use native.Mathlib.Omega.{arith}
use lib.ListN.{length}
use Rattle.format.proofs.Writes.{wrote_next, wrote_to, wrote_from}
use Rattle.format.specs.Format.{head_bytes}
use Rattle.expander_rules.specs.Sizes.{slot_count}
use Rattle.program_carried.specs.CarriedFormat.{slot_bytes, record_bytes}
use Rattle.std.proofs.Common.{rules}
use Rattle.program_carried.proofs.write_carried.Goals as goal

pub returns : goal.returns
returns c =
    let slots_long : length c.args.carried.slots ≡ slot_count = search rules in
    wrote_to record_bytes (omega arith)
    (wrote_next (omega arith) c.write_head.ensures
    (λ h'. wrote_next h' c.write.ensures
    (λ h'. wrote_next h' c.write_run.ensures
    (λ _. wrote_from (head_bytes + (2 + slot_bytes)) (omega (arith, slots_long)) c.write_load.ensures))))
