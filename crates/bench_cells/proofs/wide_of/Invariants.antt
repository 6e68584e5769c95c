use Prim.Native.Nat.{ℕ, ◌<◌}
use mathlib.Core.Path.{◌≡◌}
use lib.ListN.{length, get_or}
use Rattle.bench_cells.specs.Cells.{wide_cell}
use Rattle.bench_cells.proofs.wide_of.Given as goal

abbrev pub invariant-loop-i : goal.invariant-loop-i
invariant-loop-i g l = (length l.cell-items ≡ g.row.N) × ((k : ℕ) → k < l.i → get_or l.cell-items k 0 ≡ wide_cell (get_or l.high k 0) (get_or l.low k 0))
