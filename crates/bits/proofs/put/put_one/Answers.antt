use mathlib.Core.Path.{refl}
use Rattle.bits.proofs.Overwrite.{over_set}
use native.Mathlib.Omega.{arith}
use Rattle.bits.proofs.put.put_one.Goals as goal

pub returns : goal.returns
returns g c = record { placed = refl; list = over_set _ _ _ (omega arith) }
