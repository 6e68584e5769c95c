use Rattle.format.proofs.Joins.{le_byte, le_none}
use native.Mathlib.Omega.{arith}
use Rattle.image_scan.proofs.waits.kind_at.Goals as goal

pub overflow_cast-result : goal.overflow_cast-result
overflow_cast-result c = omega (arith, c.type_inv.s c.args.at)

pub returns-then-at-s : goal.returns-then-at-s
returns-then-at-s c = le_byte c.args.at c.args.s.now

pub returns-else-at-s : goal.returns-else-at-s
returns-else-at-s c = le_none c.args.at c.args.s.now c.if-at-s.false
