use lib.Seq.{length-take-le}
use mathlib.Core.Path.{sym}
use native.Mathlib.Omega.{arith}
use Rattle.test_run.proofs.input.take_stream.Goals as goal

pub slice_bounds-fill_stream-end-3 : goal.slice_bounds-fill_stream-end-3
slice_bounds-fill_stream-end-3 c = sym (length-take-le _ _ (omega arith))
