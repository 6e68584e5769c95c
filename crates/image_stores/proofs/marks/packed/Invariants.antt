use Prim.Native.Nat.{◌+◌, ◌-◌}
use mathlib.Core.Path.{◌≡◌}
use lib.ListN.{drop}
use Rattle.image_layout.specs.Marks.{pack}
use Rattle.image_stores.proofs.marks.packed.Given as goal

abbrev pub invariant-loop-i : goal.invariant-loop-i
invariant-loop-i l = l.v ≡ pack (8 - l.i) (drop (l.at + l.i) l.marks)
