use native.Mathlib.Omega.{arith}
use lib.ListN.{length-take}
use Rattle.emulate.proofs.answer.Goals as goal

pub slice_bounds-write_all-end-2 : goal.slice_bounds-write_all-end-2
slice_bounds-write_all-end-2 c = simp length-take (omega arith)
