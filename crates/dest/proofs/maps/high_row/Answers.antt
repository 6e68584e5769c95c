use Rattle.dest.specs.Maps.{spread, high32}
use native.Mathlib.Nat.{div-one}
use Rattle.dest.proofs.maps.high_row.Goals as goal

pub returns : goal.returns
unfolding spread high32
returns c = rw (c.after_swizzle-m.ensures, c.after_remap.ensures, div-one)
