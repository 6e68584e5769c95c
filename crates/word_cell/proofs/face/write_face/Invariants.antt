use Rattle.std.proofs.Common.{◌≡◌, ◌+◌, ◌*◌, drop}
use Rattle.word_rules.specs.Face.{with_rows}
use Rattle.word_cell.proofs.face.write_face.Given as goal

abbrev pub invariant-loop-r : goal.invariant-loop-r
invariant-loop-r l = with_rows (l.at + l.r * 16) (drop l.r l.fn.face) l.s ≡ with_rows l.at l.fn.face l.initial.s
