use Prim.Native.Nat.{◌+◌, ◌*◌}
use mathlib.Core.Path.{◌≡◌, ap, ◌∙◌}
use mathlib.Core.List.{[]}
use native.Mathlib.Omega.{arith}
use lib.ListN.{length, get_or, set}
use Rattle.bits.proofs.Bytes.{enc_long}
use Rattle.format.proofs.Joins.{store_byte}
use Rattle.format.proofs.Writes.{wrote_to}
use Rattle.format.proofs.Runs.{writing_goes, writing_ends}
use Rattle.image_layout.specs.Marks.{pack, eights}
use Rattle.image_layout.specs.Image.{marks_size}
use Rattle.image_layout.proofs.MarkLaws.{eights_long, eight_at, pack_lt}
use Rattle.image_stores.proofs.marks.write_marks.Goals as goal

pub loop-i-preserved : goal.loop-i-preserved
loop-i-preserved c =
    let l = c.loop-i in
    let at = c.args.at in
    let marks = c.args.marks.now in
    let long : length (eights marks_size marks) ≡ marks_size = eights_long marks_size marks in
    let v = pack 8 (get_or (eights marks_size marks) l.i []) in
    let place : at + l.i * 1 ≡ at + l.i = omega arith in
    let byte = ap (set l.out (at + l.i)) (c.packed.ensures ∙ eight_at marks_size l.i marks (omega arith)) in
    writing_goes l.invariant (omega arith) (omega arith) [] (rw place (byte ∙ store_byte l.out (at + l.i) v (omega arith) (pack_lt 8 _))) (enc_long 1 v)

pub returns : goal.returns
returns c =
    let long : length (eights marks_size c.args.marks.now) ≡ marks_size = eights_long marks_size c.args.marks.now in
    wrote_to _ (omega arith) (writing_ends c.loop-i.invariant (λ m. enc_long 1 (pack 8 m)) (omega arith))
