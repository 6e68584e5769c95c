use Prim.Native.Nat.{◌-◌}
use Rattle.expander_rules.specs.Templates.{nth, rounds, inner_round}
use Rattle.expander_templates.proofs.Writing.{Left}
use Rattle.expander_templates.proofs.template_1.put_inner.Given as goal

abbrev pub invariant-loop-j : goal.invariant-loop-j
invariant-loop-j l = Left l.initial.out l.at (rounds (inner_round l.nine l.last) 0 (nth l.nine 1)) l.out l.p (rounds (inner_round l.nine l.last) l.j (nth l.nine 1 - l.j))
