use Prim.Native.Nat.{◌+◌}
use mathlib.Core.Path.{◌≡◌}
use lib.ListN.{drop}
use Rattle.bits.specs.Overwrite.{over}
use Rattle.bits.proofs.put.put_all.Given as goal

abbrev pub invariant-loop-i : goal.invariant-loop-i
invariant-loop-i g l = over l.out (l.at + l.i) (drop l.i l.items) ≡ over l.initial.out l.at l.items
