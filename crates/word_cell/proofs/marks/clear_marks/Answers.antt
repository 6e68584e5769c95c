use Rattle.std.proofs.Common.{◌≡◌, ◌+◌, ◌-◌, length, replicate, take, drop, length-take, length-drop, false, ap, ◌∙◌, arith}
use Rattle.std.proofs.lemmas.List.{length-replicate}
use Rattle.bits.proofs.Overwrite.{put_mid-over}
use Rattle.word_cell.proofs.marks.clear_marks.Goals as goal

pub returns : goal.returns
returns c =
    let a = c.args in
    let n : a.first + a.count - a.first ≡ a.count = omega arith in
    let long : length (take (a.first + a.count - a.first) (drop a.first a.marks.now)) ≡ a.count = simp (length-take, length-drop) (omega arith) in
    put_mid-over a.first _ _ _ (replicate a.count false) (c.fill.ensures.after (λ y h. h) ∙ ap (λ k. replicate k false) long) (rw length-replicate n)
