-- Document 01's worked examples, at the MOP stage, by computation.
use mathlib.Core.Path.{refl}
use Rattle.expander_rules.specs.Templates.{rounds, group, mask_group, mask_bit, last_word, inner_round, outer_round}
use Rattle.expander_rules.specs.Stream.{mop_words, emission_of, stream_of}
use Rattle.expander_rules.specs.Promises.{ExpanderExamples}

pub examples : ExpanderExamples
unfolding stream_of emission_of mop_words rounds group mask_group mask_bit last_word inner_round outer_round
examples = record { m10 = λ m0 m2 m3 m4 m5 m6 m7 m8. refl; m11 = λ m2 m3 m4 m5 m6 m7 m8 high. refl }
