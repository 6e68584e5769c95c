use mathlib.Core.Path.{◌≡◌}
use lib.ListN.{drop}
use Rattle.expander_rules.specs.Stream.{stream_of}
use Rattle.expander_rules.specs.Call.{fault_of}
use Rattle.expander_replay.proofs.Surveys.{Onward}
use Rattle.expander.proofs.survey.survey_stream.Given as goal

abbrev pub invariant-loop-word : goal.invariant-loop-word
invariant-loop-word l =
    let m = l.nine.words in
    (fault_of m l.mask l.s.load (drop l.word-index l.input) ≡ fault_of m l.high l.initial.s.load l.input)
    × Onward l.initial.s (stream_of m l.high l.input).words l.limit l.s (stream_of m l.mask (drop l.word-index l.input)).words
