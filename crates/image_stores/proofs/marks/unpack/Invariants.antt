use Prim.Native.Nat.{◌+◌, ◌-◌}
use mathlib.Core.Path.{◌≡◌}
use Rattle.bits.specs.Overwrite.{over}
use Rattle.image_layout.specs.Marks.{unpack}
use Rattle.image_stores.proofs.marks.unpack.Given as goal

abbrev pub invariant-loop-i : goal.invariant-loop-i
invariant-loop-i l = over l.marks (l.at + l.i) (unpack (8 - l.i) l.v) ≡ over l.initial.marks l.at (unpack 8 l.b)
