use Rattle.std.proofs.Common.{rules, ◌≡◌}
use mathlib.Core.Bool.{true}
use mathlib.Core.Logic.{◌↔◌}
use Rattle.std.specs.List.{All}
use Rattle.machine.proofs.Semaphores.{InRange, all-semaphores}
use Rattle.machine_formed.proofs.control.semaphores_formed.Goals as goal

pub returns : goal.returns
returns c =
    let e : (c.all.result ≡ true) ↔ All InRange c.args.all.now = search rules in
    all-semaphores c.args.all.now c.all.result e
