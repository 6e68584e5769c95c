use Rattle.std.proofs.Common.{sym, ◌∙◌, arith}
use Rattle.format.proofs.Joins.{enc_turn, enc_ends}
use Rattle.format.proofs.Writes.{wrote_number}
use Rattle.format.proofs.number.write.Goals as goal

pub loop-i-preserved : goal.loop-i-preserved
loop-i-preserved g c =
    let l = c.loop-i in
    enc_turn g.row.W c.args.at l.i l.left l.out c.loop-i-test.true (omega arith) ∙ l.invariant

pub returns : goal.returns
returns g c =
    let l = c.loop-i in
    let a = c.args in
    wrote_number a.at g.row.W a.v (sym (enc_ends g.row.W a.at l.i l.left l.out c.loop-i-test.false) ∙ l.invariant)
