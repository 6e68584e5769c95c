use Rattle.dest.specs.Maps.{low32}
use Rattle.dest.proofs.Bounds.{high32_lt}
use native.Mathlib.Omega.{arith}
use Rattle.dest.proofs.maps.low_row.Goals as goal

pub overflow_add-result : goal.overflow_add-result
overflow_add-result c = rw c.high_row-high.ensures (omega (arith, high32_lt c.args.flags c.args.row))

pub returns : goal.returns
unfolding low32
returns c = rw c.high_row-high.ensures
