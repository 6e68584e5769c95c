use Prim.Native.Nat.{◌+◌, ◌≤◌}
use mathlib.Core.Path.{◌≡◌}
use lib.ListN.{drop}
use Rattle.expander_rules.specs.Counts.{stream_count}
use Rattle.expander_mop.proofs.count.count_stream.Given as goal

abbrev pub invariant-loop-word : goal.invariant-loop-word
invariant-loop-word l = (l.n ≤ l.limit) × (l.n + stream_count l.nine (drop l.word-index l.input) ≡ stream_count l.nine l.input)
