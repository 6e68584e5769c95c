use mathlib.Core.Path.{sym, ◌∙◌}
use native.Mathlib.Omega.{arith}
use Rattle.bits.proofs.Ranges.{fits_all, at_most_all}
use Rattle.bits.proofs.halves_fit.Goals as goal

pub returns-then-is_empty : goal.returns-then-is_empty
returns-then-is_empty c = c.if-is_empty.true ∙ sym (at_most_all 65535 c.args.a.now (λ i. omega (arith, c.type_inv.a i)))

pub returns-else-is_empty : goal.returns-else-is_empty
returns-else-is_empty c = fits_all 65535 c.args.a.now (λ i. omega (arith, c.type_inv.a i))
