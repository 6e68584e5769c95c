use Prim.Native.Nat.{◌-◌, ◌*◌}
use mathlib.Core.Path.{◌≡◌, sym, ◌∙◌}
use native.Mathlib.Omega.{arith}
use lib.ListN.{drop}
use Rattle.bits.proofs.Overwrite.{over_none, over_whole}
use Rattle.format.specs.Format.{many_get}
use Rattle.image_layout.specs.Marks.{joined_eights}
use Rattle.image_layout.specs.Image.{marks_size}
use Rattle.image_layout.proofs.MarkLaws.{marks_of, marks_long, marks_next}
use Rattle.image_stores.proofs.marks.read_marks.Goals as goal

pub loop-i-preserved : goal.loop-i-preserved
loop-i-preserved c =
    let done = c.unpack in
    let l = c.loop-i in
    let a = c.args in
    let next = marks_next marks_size a.at l.i a.s.now l.marks done.new.marks c.loop-i-test.true (omega arith) done.ensures in
    (done.auto.marks ∙ l.invariant.0, next ∙ l.invariant.1)

pub returns : goal.returns
unfolding joined_eights many_get
returns c =
    let a = c.args in
    let l = c.loop-i in
    let bytes = drop a.at a.s.now in
    let e : marks_size - l.i ≡ 0 = omega arith in
    sym (over_none l.marks (8 * l.i))
    ∙ rw e at l.invariant.1
    ∙ over_whole a.marks.now (marks_of marks_size bytes) (omega (arith, marks_long marks_size bytes))
