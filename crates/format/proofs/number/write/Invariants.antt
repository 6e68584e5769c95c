use Rattle.std.proofs.Common.{◌≡◌, ◌+◌, ◌-◌}
use Rattle.bits.specs.Bytes.{enc}
use Rattle.bits.specs.Overwrite.{over}
use Rattle.format.proofs.number.write.Given as goal

-- the low bytes are written, and those of what is left of the number follow
abbrev pub invariant-loop-i : goal.invariant-loop-i
invariant-loop-i g l = over l.out (l.at + l.i) (enc (g.row.W - l.i) l.left) ≡ over l.initial.out l.at (enc g.row.W l.v)
