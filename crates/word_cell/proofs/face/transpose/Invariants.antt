use Rattle.std.proofs.Common.{◌≡◌, ◌-◌, ◌++◌, length, take}
use Rattle.bits.specs.Values.{values}
use Rattle.word_rules.specs.Face.{column_of, transposed}
use Rattle.word_cell.proofs.face.transpose.Given as goal

abbrev pub invariant-loop-r : goal.invariant-loop-r
invariant-loop-r l = (length l.turned ≡ 16) × (take l.r l.turned ++ values l.r (16 - l.r) (λ k. column_of l.face k) ≡ transposed l.face)
