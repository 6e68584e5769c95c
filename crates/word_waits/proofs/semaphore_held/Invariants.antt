use Rattle.std.proofs.Common.{◌≡◌, drop}
use Rattle.word_rules.specs.Waits.{semaphore_held}
use Rattle.word_waits.proofs.semaphore_held.Given as goal

abbrev pub invariant-loop-i : goal.invariant-loop-i
invariant-loop-i l = semaphore_held l.condition l.all l.mask 0 ≡ semaphore_held l.condition (drop l.i l.all) l.m l.i
