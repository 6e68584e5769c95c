use Rattle.expander_rules.proofs.Words.{cut_at}
use Rattle.expander_replay.proofs.Surveys.{surveyed_stop, surveyed_then}
use Rattle.expander_replay.proofs.survey.survey_words.Goals as goal

pub returns-in_err-t : goal.returns-in_err-t
returns-in_err-t c = rw (c.from_residual.ensures, cut_at c.args.words.now c.min-taken.result) (surveyed_stop c.args.s _ _ c.in_err-t.ensures)

pub returns : goal.returns
returns c = rw (cut_at c.args.words.now c.min-taken.result) (surveyed_then c.in_ok-t.ensures _ _ c.survey_rest.ensures)
