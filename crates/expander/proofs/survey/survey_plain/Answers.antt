use mathlib.Core.Path.{refl, sym, ◌∙◌}
use native.Mathlib.Omega.{arith}
use borrow.Author.Tests.{not-true}
use Rattle.expander_rules.specs.Stream.{mop_words}
use Rattle.expander_rules.proofs.StreamLaws.{mop_long}
use Rattle.expander_rules.proofs.Plain.{mop_plain}
use Rattle.expander_replay.proofs.Surveys.{surveyed_plain}
use Rattle.expander.proofs.survey.survey_plain.Goals as goal

pub returns-then-limit-s : goal.returns-then-limit-s
returns-then-limit-s c =
    let a = c.args in
    let m = a.nine.now.words in
    let none = not-true _ (sym a.nine.now.none_replays ∙ c.requires.0) in
    λ high. surveyed_plain a.s (mop_words m high a.word) a.limit _ c.requires.1 (mop_plain m none high a.word) (omega (arith, c.requires.2.small)) refl

pub returns : goal.returns
returns c =
    let a = c.args in
    let m = a.nine.now.words in
    let none = not-true _ (sym a.nine.now.none_replays ∙ c.requires.0) in
    λ high. surveyed_plain a.s (mop_words m high a.word) a.limit _ c.requires.1 (mop_plain m none high a.word) (rw (mop_long m high a.word) c.count_mop-count.ensures) refl
