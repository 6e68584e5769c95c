use Rattle.expander.proofs.survey.survey_mop.Goals as goal

pub returns-then-not-is_loading : goal.returns-then-not-is_loading
returns-then-not-is_loading c = c.survey_plain.ensures c.args.high
