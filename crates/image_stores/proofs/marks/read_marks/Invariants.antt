use Prim.Native.Nat.{◌+◌, ◌-◌, ◌*◌}
use mathlib.Core.Path.{◌≡◌}
use lib.ListN.{length, drop}
use Rattle.bits.specs.Overwrite.{over}
use Rattle.machine.specs.Sizes.{mark_count}
use Rattle.image_layout.specs.Image.{marks_size}
use Rattle.image_layout.proofs.MarkLaws.{marks_of}
use Rattle.image_stores.proofs.marks.read_marks.Given as goal

abbrev pub invariant-loop-i : goal.invariant-loop-i
invariant-loop-i l =
    (length l.marks ≡ mark_count) × (over l.marks (8 * l.i) (marks_of (marks_size - l.i) (drop (l.at + l.i) l.s)) ≡ over l.initial.marks 0 (marks_of marks_size (drop l.at l.s)))
