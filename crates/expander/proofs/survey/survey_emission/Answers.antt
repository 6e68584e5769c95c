use Rattle.expander_rules.proofs.StreamLaws.{word_config}
use Rattle.expander_replay.proofs.Surveys.{surveyed_none}
use Rattle.expander.proofs.survey.survey_emission.Goals as goal

pub returns-in-3 : goal.returns-in-3
returns-in-3 c =
    let a = c.args in
    rw (word_config a.nine.now.words a.high a.word (rw c.field.ensures.value at c.in-3.is)) (surveyed_none c.requires.1)
