use mathlib.Core.List.{[], ◌∷◌}
use mathlib.Core.Path.{refl, sym, ◌∙◌}
use Rattle.expander_rules.specs.Stream.{is_replay}
use Rattle.expander_rules.proofs.Words.{none_one}
use Rattle.expander_replay.proofs.Surveys.{surveyed_bad, surveyed_one, surveyed_plain}
use Rattle.expander_replay.proofs.survey.survey_word.Goals as goal

pub returns-then-obeyed_badly : goal.returns-then-obeyed_badly
returns-then-obeyed_badly c = surveyed_bad c.args.s c.args.word (sym c.obeyed_badly.ensures ∙ c.if-obeyed_badly.true)

pub returns-then-is_replay : goal.returns-then-is_replay
returns-then-is_replay c =
    let a = c.args in
    surveyed_one a.s a.word a.limit _ (sym c.obeyed_badly.ensures ∙ c.if-obeyed_badly.false) (rw c.count_word.ensures.0 at c.cap-count.ensures) c.load_after-after.ensures

pub returns : goal.returns
returns c =
    let a = c.args in
    surveyed_plain a.s (a.word ∷ []) a.limit _ (sym c.is_loading.ensures ∙ c.if-is_loading.false) (none_one is_replay a.word (sym c.is_replay.ensures ∙ c.if-is_replay.false)) c.cap-count-2.ensures refl
