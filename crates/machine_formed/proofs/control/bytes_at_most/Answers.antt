use Rattle.std.proofs.Common.{rules, ◌≡◌, ◌≤◌}
use mathlib.Core.Bool.{true}
use mathlib.Core.Logic.{◌↔◌}
use Rattle.std.specs.List.{All}
use Rattle.bits.proofs.Ranges.{all-at_most}
use Rattle.machine_formed.proofs.control.bytes_at_most.Goals as goal

pub returns : goal.returns
returns c =
    let e : (c.all.result ≡ true) ↔ All (λ x. x ≤ c.args.most) c.args.a.now = search rules in
    all-at_most c.args.most c.args.a.now c.all.result e
