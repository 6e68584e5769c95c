use Rattle.std.proofs.Common.{◌≡◌, ◌<◌, length, sym, ◌∙◌, rules}
use Rattle.word_rules.proofs.FaceLaws.{rows_step, rows_end}
use Rattle.word_cell.proofs.face.write_face.Goals as goal

pub loop-r-preserved : goal.loop-r-preserved
loop-r-preserved c =
    let h : c.loop-r.r < length c.args.face = search rules in
    rw c.copy_words.ensures (sym (rows_step _ _ _ _ h) ∙ c.loop-r.invariant)

pub returns : goal.returns
returns c =
    let h : c.loop-r.r ≡ length c.args.face = search rules in
    sym (rows_end _ _ _ _ h) ∙ c.loop-r.invariant
