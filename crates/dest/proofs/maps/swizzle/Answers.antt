use Rattle.dest.proofs.Bounds.{crossed_lt}
use Rattle.dest.specs.Maps.{swizzled}
use native.Mathlib.Nat.{div-one}
use native.Mathlib.Omega.{arith}
use Rattle.dest.proofs.maps.swizzle.Goals as goal

pub returns : goal.returns
unfolding swizzled
returns c = rw div-one

pub overflow_mul-result-2 : goal.overflow_mul-result-2
overflow_mul-result-2 c = omega (arith, crossed_lt c.args.r)

pub overflow_add-result : goal.overflow_add-result
overflow_add-result c = omega (arith, crossed_lt c.args.r)

pub overflow_add-result-2 : goal.overflow_add-result-2
overflow_add-result-2 c = omega (arith, crossed_lt c.args.r)

pub overflow_add-result-3 : goal.overflow_add-result-3
overflow_add-result-3 c = omega (arith, crossed_lt c.args.r)
