use mathlib.Core.Path.{◌≡◌}
use Rattle.bits.specs.Overwrite.{over}
use Rattle.text.specs.Digits.{last_digits_in}
use Rattle.text.specs.Hex.{hex_digit}
use Rattle.text.proofs.put_digits.Given as goal

abbrev pub invariant-loop-i : goal.invariant-loop-i
invariant-loop-i g l =
    over l.out l.at (last_digits_in g.row.BASE hex_digit l.i l.m) ≡ over l.initial.out l.at (last_digits_in g.row.BASE hex_digit l.k l.n)
