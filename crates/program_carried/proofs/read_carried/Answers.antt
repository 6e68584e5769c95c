use Prim.Native.Nat.{◌+◌}
use lib.ListN.{drop}
use Rattle.bits.specs.Bytes.{le}
use Rattle.format.specs.Format.{many_get}
use Rattle.format.proofs.Fields.{inside}
use Rattle.expander_rules.specs.Sizes.{slot_count}
use Rattle.program_carried.specs.CarriedFormat.{slot_bytes, load_format}
use Rattle.program_carried.proofs.read_carried.Goals as goal

pub returns : goal.returns
returns c =
    let at = c.args.at in
    let s = c.args.s.now in
    let slots = inside (many_get (le 4) 4 slot_count) 2 at s c.read_run.ensures in
    let load = inside load_format.get slot_bytes 2 (drop at s) (inside load_format.get (2 + slot_bytes) at s c.read_load-load.ensures) in
    λ i. record { high_mask = c.read-high_mask.ensures.value i; slots = slots i; load = load i }
