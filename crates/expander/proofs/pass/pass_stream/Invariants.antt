use mathlib.Core.Path.{◌≡◌}
use lib.ListN.{drop}
use Rattle.machine.specs.Answers.{accepted}
use Rattle.expander_rules.specs.Stream.{stream_of}
use Rattle.expander_rules.specs.Call.{fault_of}
use Rattle.expander_replay.proofs.Passing.{Passing}
use Rattle.expander.proofs.pass.pass_stream.Given as goal

abbrev pub invariant-loop-word : goal.invariant-loop-word
invariant-loop-word l =
    let m = l.nine.words in
    (fault_of m l.mask l.p.load (drop l.word-index l.input) ≡ accepted tt)
    × ((stream_of m l.mask (drop l.word-index l.input)).high ≡ (stream_of m l.high l.input).high)
    × Passing l.initial.slots l.initial.p (stream_of m l.high l.input).words l.initial.out l.slots l.out l.p (stream_of m l.mask (drop l.word-index l.input)).words
