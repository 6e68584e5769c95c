use native.Mathlib.Omega.{arith}
use mathlib.Core.Path.{sym, ◌∙◌}
use Rattle.text.specs.Hex.{hex_digit}
use Rattle.text.proofs.Digits.{in_next, in_none}
use Rattle.text.proofs.put_digits.Goals as goal

pub loop-i-preserved : goal.loop-i-preserved
loop-i-preserved g c =
    let l = c.loop-i in
    let next = in_next g.row.BASE hex_digit l.out c.args.at l.i l.m c.loop-i-test.true (omega arith) in
    rw c.hex_digit.ensures (next ∙ l.invariant)

pub returns : goal.returns
returns g c =
    let l = c.loop-i in
    sym (in_none g.row.BASE hex_digit l.out c.args.at l.i l.m (omega arith)) ∙ l.invariant
