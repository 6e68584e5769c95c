use mathlib.Core.Path.{◌≡◌}
use lib.ListN.{drop}
use Rattle.expander_rules.specs.Stream.{stream_of}
use Rattle.expander_templates.proofs.Writing.{Left}
use Rattle.expander_mop.proofs.stream.put_stream.Given as goal

abbrev pub invariant-loop-word : goal.invariant-loop-word
invariant-loop-word l =
    ((stream_of l.nine l.mask (drop l.word-index l.input)).high ≡ (stream_of l.nine l.high l.input).high)
    × Left l.initial.out l.at (stream_of l.nine l.high l.input).words l.out l.p (stream_of l.nine l.mask (drop l.word-index l.input)).words
