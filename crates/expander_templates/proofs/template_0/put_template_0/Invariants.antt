use Prim.Native.Nat.{◌/◌, ◌^◌, ◌-◌}
use mathlib.Core.Path.{◌≡◌}
use Rattle.expander_rules.specs.Templates.{rounds, mask_round}
use Rattle.expander_templates.proofs.Writing.{Left}
use Rattle.expander_templates.proofs.template_0.put_template_0.Given as goal

abbrev pub invariant-loop-i : goal.invariant-loop-i
invariant-loop-i l =
    (l.rest ≡ l.mask / 2 ^ l.i) × Left l.initial.out l.at (rounds (mask_round l.nine l.mask) 0 l.count) l.out l.p (rounds (mask_round l.nine l.mask) l.i (l.count - l.i))
