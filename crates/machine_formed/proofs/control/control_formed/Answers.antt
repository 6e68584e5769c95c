use Rattle.machine.specs.Formed.{control_formed}
use lib.ListN.{length}
use mathlib.Core.Path.{◌≡◌}
use borrow.Author.Tests.{eq-eqb}
use Rattle.std.proofs.Common.{rules}
use Rattle.machine_formed.proofs.control.control_formed.Goals as goal

pub returns-then-banks_formed : goal.returns-then-banks_formed
unfolding control_formed
returns-then-banks_formed c = let h : length c.args.c.semaphores ≡ 8 = search rules in rw (eq-eqb _ _ h) (search rules)

pub returns-else-banks_formed : goal.returns-else-banks_formed
unfolding control_formed
returns-else-banks_formed c = let h : length c.args.c.semaphores ≡ 8 = search rules in rw (eq-eqb _ _ h) (search rules)
