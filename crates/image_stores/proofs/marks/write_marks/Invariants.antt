use Rattle.format.proofs.Runs.{Writing}
use Rattle.image_layout.specs.Marks.{eight, eights}
use Rattle.image_layout.specs.Image.{marks_size}
use Rattle.image_stores.proofs.marks.write_marks.Given as goal

abbrev pub invariant-loop-i : goal.invariant-loop-i
invariant-loop-i l = Writing eight.put 1 l.initial.out l.at (eights marks_size l.marks) l.out l.i
