use mathlib.Core.List.{[], ◌∷◌}
use lib.ListN.{get_or, drop_of_length-le}
use Rattle.expander_rules.proofs.Words.{words_next}
use Rattle.expander_replay.proofs.Surveys.{onward_next, onward_stopped, onward_done}
use Rattle.expander_replay.proofs.survey.survey_each.Goals as goal

pub returns-in_err-s : goal.returns-in_err-s
returns-in_err-s c =
    let l = c.loop-word in
    let w = c.args.words.now in
    rw c.from_residual.ensures (onward_stopped l.invariant (get_or w l.word-index 0 ∷ []) _ (words_next w l.word-index c.loop-word-test.true) c.in_err-s.ensures)

pub loop-word-preserved : goal.loop-word-preserved
loop-word-preserved c =
    let l = c.loop-word in
    let w = c.args.words.now in
    onward_next l.invariant (get_or w l.word-index 0 ∷ []) _ (words_next w l.word-index c.loop-word-test.true) c.in_ok-s.ensures

pub returns : goal.returns
returns c = onward_done c.loop-word.invariant (drop_of_length-le c.args.words.now c.loop-word-test.false)
