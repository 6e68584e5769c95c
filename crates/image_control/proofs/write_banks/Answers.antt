use mathlib.Core.Path.{◌≡◌}
use native.Mathlib.Omega.{arith}
use lib.ListN.{length}
use Rattle.machine.specs.Sizes.{bank_count, pointer_count}
use Rattle.format.proofs.Writes.{wrote_next, wrote_to}
use Rattle.image_layout.specs.Places.{pointers_at}
use Rattle.std.proofs.Common.{rules}
use Rattle.image_control.proofs.write_banks.Goals as goal

pub returns : goal.returns
returns c =
    let owners-long : length c.args.c.owners ≡ bank_count = search rules in
    let pointers-long : length c.args.c.pointers ≡ pointer_count = search rules in
    let first = wrote_to pointers_at (omega arith) c.write_run.ensures in
    wrote_next (omega arith) first (λ h. wrote_to _ (omega arith) c.write_run-2.ensures)
