use Rattle.machine.proofs.FreshLaws.{fresh_zero, fresh_formed}
use Rattle.machine.specs.Fresh.{fresh_machine, fresh_stores}
use Rattle.machine.proofs.fresh.fresh.Goals as goal

pub returns : goal.returns
unfolding fresh_machine fresh_stores
returns c = record { whole = rw c.fresh_control.ensures; zero = rw c.fresh_control.ensures fresh_zero; formed = rw c.fresh_control.ensures fresh_formed }
