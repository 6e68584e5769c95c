use mathlib.Core.Path.{refl, sym, ◌∙◌}
use Rattle.expander_replay.proofs.Surveys.{surveyed_plain}
use Rattle.expander_replay.proofs.survey.survey_rest.Goals as goal

pub returns : goal.returns
returns c =
    let a = c.args in
    surveyed_plain a.s a.words.now a.limit _ (sym c.is_loading.ensures ∙ c.if-is_loading.false) (sym c.any_replay.ensures ∙ c.if-any_replay.false) c.cap-count.ensures refl
