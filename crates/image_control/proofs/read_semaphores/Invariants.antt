use Rattle.machine.specs.Sizes.{semaphore_count}
use Rattle.format.proofs.Runs.{Reading}
use Rattle.image_layout.specs.Control.{semaphore_format}
use Rattle.image_layout.specs.Places.{semaphores_at}
use Rattle.image_control.proofs.read_semaphores.Given as goal

abbrev pub invariant-loop-i : goal.invariant-loop-i
invariant-loop-i l = Reading semaphore_format.get 2 l.s semaphores_at semaphore_count l.all l.i
