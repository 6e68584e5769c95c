use Rattle.bits.proofs.Overwrite.{wrote_within}
use native.Mathlib.Omega.{arith}
use lib.ListN.{length-take}
use Rattle.resume.proofs.answer.Goals as goal

pub slice_bounds-write_all-end : goal.slice_bounds-write_all-end
slice_bounds-write_all-end c = wrote_within c.resume-m.ensures (omega arith)

pub slice_bounds-write_all-end-2 : goal.slice_bounds-write_all-end-2
slice_bounds-write_all-end-2 c = let h = wrote_within c.resume-m.ensures (omega arith) in simp length-take (omega arith)
