use Prim.Native.Nat.{◌+◌, ◌-◌}
use mathlib.Core.Path.{◌≡◌, sym, ◌∙◌}
use native.Mathlib.Omega.{arith}
use Rattle.bits.proofs.Overwrite.{over_none}
use Rattle.image_layout.specs.Marks.{unpack}
use Rattle.image_layout.proofs.MarkLaws.{unpack_next}
use Rattle.image_stores.proofs.marks.unpack.Goals as goal

pub loop-i-preserved : goal.loop-i-preserved
loop-i-preserved c =
    let l = c.loop-i in
    unpack_next 8 c.args.at l.i l.v l.marks c.loop-i-test.true (omega arith) ∙ l.invariant

pub returns : goal.returns
unfolding unpack
returns c =
    let l = c.loop-i in
    let e : 8 - l.i ≡ 0 = omega arith in
    sym (over_none l.marks (c.args.at + l.i)) ∙ rw e at l.invariant
