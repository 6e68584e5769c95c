use mathlib.Core.Path.{◌≡◌}
use native.Mathlib.Omega.{arith}
use lib.ListN.{length}
use Rattle.machine.specs.Sizes.{mutex_count}
use Rattle.format.proofs.Writes.{wrote_next, wrote_to}
use Rattle.image_layout.specs.Places.{mutexes_at, semaphores_at}
use Rattle.std.proofs.Common.{rules}
use Rattle.image_control.proofs.write_locks.Goals as goal

pub returns : goal.returns
returns c =
    let mutexes-long : length c.args.c.mutexes ≡ mutex_count = search rules in
    let first = wrote_to mutexes_at (omega arith) c.write_run.ensures in
    let second = wrote_to semaphores_at (omega arith) c.write_run-2.ensures in
    wrote_next (omega arith) (wrote_next (omega arith) first (λ h. second)) (λ h. c.write_semaphores.ensures)
