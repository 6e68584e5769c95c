use mathlib.Core.Path.{◌∙◌}
use native.Mathlib.Omega.{arith}
use lib.ListN.{replicate}
use Rattle.bits.proofs.Overwrite.{over_whole}
use Rattle.program_carried.specs.CarriedFormat.{record_bytes, record_format}
use Rattle.program_carried.proofs.carried_record.Goals as goal

pub returns : goal.returns
returns c =
    let w = c.write_carried.ensures in
    w.list ∙ over_whole (replicate record_bytes 0) (record_format.put c.args.carried) (omega (arith, w.placed))
