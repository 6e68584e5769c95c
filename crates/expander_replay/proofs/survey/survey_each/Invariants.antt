use lib.ListN.{drop}
use Rattle.expander_replay.proofs.Surveys.{Onward}
use Rattle.expander_replay.proofs.survey.survey_each.Given as goal

abbrev pub invariant-loop-word : goal.invariant-loop-word
invariant-loop-word l = Onward l.initial.s l.words l.limit l.s (drop l.word-index l.words)
