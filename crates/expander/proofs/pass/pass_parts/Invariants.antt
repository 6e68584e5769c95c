use Prim.Native.Nat.{◌-◌}
use Rattle.expander_rules.specs.Templates.{rounds}
use Rattle.expander_rules.specs.Stream.{mop_words}
use Rattle.expander_replay.proofs.Passing.{Passing}
use Rattle.expander.specs.Parts.{mop_part}
use Rattle.expander.proofs.pass.pass_parts.Given as goal

abbrev pub invariant-loop-o : goal.invariant-loop-o
invariant-loop-o l =
    let m = l.nine.words in
    Passing l.initial.slots l.initial.p (mop_words m l.high l.word) l.initial.out l.slots l.out l.p (rounds (mop_part m l.high l.word) l.o (l.count - l.o))
