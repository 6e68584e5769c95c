use mathlib.Core.Path.{◌≡◌}
use mathlib.Core.Bool.{◌&&◌}
use lib.Dec.{leb}
use lib.ListN.{drop}
use Rattle.bits.specs.Ranges.{all_at_most}
use Rattle.bits.proofs.words_at_most.Given as goal

abbrev pub invariant-loop-word : goal.invariant-loop-word
invariant-loop-word l = (leb l.greatest l.most && all_at_most l.most (drop l.word-index l.a)) ≡ all_at_most l.most l.a
