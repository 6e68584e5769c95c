use Prim.Native.Nat.{◌+◌, ◌*◌, ◌≤◌}
use mathlib.Core.Path.{◌≡◌}
use Rattle.expander_rules.specs.Counts.{outer_count}
use Rattle.expander_templates.proofs.count.count_rounds.Given as goal

abbrev pub invariant-loop-j : goal.invariant-loop-j
invariant-loop-j l = (l.n ≡ l.start + l.o * outer_count l.inner + 1 + 2 * l.j) × (l.n ≤ l.limit + 1)

abbrev pub invariant-outer : goal.invariant-outer
invariant-outer l = (l.n ≡ l.start + l.o * outer_count l.inner) × (l.n ≤ l.limit)
