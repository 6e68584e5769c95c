use Rattle.format.proofs.Runs.{Writing}
use Rattle.image_layout.specs.Control.{semaphore_format}
use Rattle.image_layout.specs.Places.{semaphores_at}
use Rattle.image_control.proofs.write_semaphores.Given as goal

abbrev pub invariant-loop-i : goal.invariant-loop-i
invariant-loop-i l = Writing semaphore_format.put 2 l.initial.out semaphores_at l.all l.out l.i
