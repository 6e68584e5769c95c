use Rattle.dest.proofs.Bounds.{under_six, with_low_lem}
use Rattle.dest.specs.Maps.{remapped}
use native.Mathlib.Nat.{div-one}
use Rattle.std.proofs.Common.{rules}
use Rattle.dest.proofs.maps.remap.Goals as goal

pub overflow_add-result-3 : goal.overflow_add-result-3
overflow_add-result-3 c = record { fits = under_six _ _ _ _ (search rules) (search rules) (search rules) (search rules) }

pub overflow_add-result-4 : goal.overflow_add-result-4
overflow_add-result-4 c = record { fits = with_low_lem _ _ _ _ _ (search rules) (search rules) (search rules) (search rules) (search rules) }

pub returns : goal.returns
unfolding remapped
returns c = rw div-one
