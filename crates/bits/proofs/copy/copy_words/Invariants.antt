use Rattle.std.proofs.Common.{◌≡◌, ◌+◌, ◌-◌, length}
use Rattle.bits.specs.Copies.{copied}
use Rattle.bits.proofs.copy.copy_words.Given as goal

abbrev pub invariant-loop-i : goal.invariant-loop-i
invariant-loop-i l = (length l.dst ≡ length l.initial.dst) × (copied (l.n - l.i) (l.from + l.i) (l.to + l.i) l.src l.dst ≡ copied l.n l.from l.to l.src l.initial.dst)
