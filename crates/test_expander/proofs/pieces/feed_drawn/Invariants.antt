use lib.ListN.{length}
use Prim.Native.Nat.{◌≤◌}
use mathlib.Core.Path.{◌≡◌}
use Rattle.test_expander.proofs.pieces.feed_drawn.Given as goal

abbrev pub invariant-loop : goal.invariant-loop
invariant-loop l = (l.i ≤ length l.stream) × (l.fed.at ≤ length l.out) × (length l.out ≡ length l.initial.out)
