use Rattle.std.proofs.Common.{◌≡◌, ◌+◌, ◌-◌, ◌*◌, ◌++◌, length, take}
use Rattle.bits.specs.Values.{values}
use Rattle.word_rules.specs.Face.{row_at, face_at}
use Rattle.word_cell.proofs.face.face_at.Given as goal

abbrev pub invariant-loop-r : goal.invariant-loop-r
invariant-loop-r l = (length l.face ≡ 16) × (take l.r l.face ++ values l.r (16 - l.r) (λ k. row_at (l.at + k * 16) l.s) ≡ face_at l.at l.s)
