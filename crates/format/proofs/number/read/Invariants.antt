use Rattle.std.proofs.Common.{◌≡◌, ◌+◌, ◌-◌, drop}
use Rattle.bits.specs.Bytes.{le}
use Rattle.format.proofs.number.read.Given as goal

abbrev pub invariant-loop-i : goal.invariant-loop-i
invariant-loop-i g l = l.v ≡ le (g.row.W - l.i) (drop (l.at + l.i) l.s)
