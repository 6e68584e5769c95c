use Rattle.machine.proofs.ControlFacts.{pointer_at}
use native.Mathlib.Omega.{arith}
use Rattle.word_control.proofs.banks.give.Goals as goal

pub bounds-d-file : goal.bounds-d-file
bounds-d-file c = omega (arith, pointer_at c.args.c c.args.pointer c.requires.0)

pub overflow_sub-d : goal.overflow_sub-d
overflow_sub-d c = pointer_at c.args.c c.args.pointer c.requires.0
