use mathlib.Core.Path.{◌≡◌}
use Prim.Native.Nat.{◌+◌, ◌-◌}
use Rattle.text.specs.Decimal.{digit_count, digits_most}
use Rattle.text.proofs.digit_count.Given as goal

abbrev pub invariant-loop-k : goal.invariant-loop-k
invariant-loop-k l = l.k + digit_count (digits_most - l.k) l.m ≡ digit_count digits_most l.n
