-- M7, M8 and M9 hold by computation.
use mathlib.Core.Path.{refl}
use Rattle.dest.specs.Maps.{remapped, swizzled, spread, storage16, high32, low32}
use Rattle.dest.specs.Examples.{DestExamples}

pub worked : DestExamples
unfolding remapped swizzled spread storage16 high32 low32
worked = record { m7 = (refl, refl, refl); m8 = (refl, refl, refl); m9 = (refl, refl) }
