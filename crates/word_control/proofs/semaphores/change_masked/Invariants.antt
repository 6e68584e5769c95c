use Rattle.word_rules.specs.SyncWords.{change_masked}
use lib.ListN.{length, drop, take}
use mathlib.Core.List.{◌++◌}
use mathlib.Core.Path.{◌≡◌}
use Rattle.word_control.proofs.semaphores.change_masked.Given as goal

abbrev pub invariant-loop-s : goal.invariant-loop-s
invariant-loop-s l =
    (length l.s-items ≡ 8) × (change_masked l.k l.fn.all l.mask ≡ take l.s-index l.s-items ++ change_masked l.k (drop l.s-index l.s-items) l.m)
