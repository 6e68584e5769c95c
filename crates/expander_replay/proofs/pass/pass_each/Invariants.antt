use lib.ListN.{drop}
use Rattle.expander_replay.proofs.Passing.{Passing}
use Rattle.expander_replay.proofs.pass.pass_each.Given as goal

abbrev pub invariant-loop-word : goal.invariant-loop-word
invariant-loop-word l = Passing l.initial.slots l.initial.p l.words l.initial.out l.slots l.out l.p (drop l.word-index l.words)
