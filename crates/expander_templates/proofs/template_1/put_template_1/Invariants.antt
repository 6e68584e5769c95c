use Prim.Native.Nat.{◌-◌}
use Rattle.expander_rules.specs.Templates.{nth, rounds, outer_round, template1}
use Rattle.expander_templates.proofs.Writing.{Left}
use Rattle.expander_templates.proofs.template_1.put_template_1.Given as goal

abbrev pub invariant-loop-o : goal.invariant-loop-o
invariant-loop-o l = Left l.initial.out l.at (template1 l.nine) l.out l.p (rounds (outer_round l.nine) l.o (nth l.nine 0 - l.o))
