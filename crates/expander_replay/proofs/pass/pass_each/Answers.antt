use mathlib.Core.List.{[], ◌∷◌}
use lib.ListN.{get_or, drop_of_length-le}
use Rattle.expander_rules.proofs.Words.{words_next}
use Rattle.expander_replay.proofs.Passing.{passing_start, passing_part, passing_next, passing_done}
use Rattle.expander_replay.proofs.pass.pass_each.Goals as goal

pub loop-word-init : goal.loop-word-init
loop-word-init c = passing_start c.requires

pub pass_word-p-requires : goal.pass_word-p-requires
pass_word-p-requires c =
    let l = c.loop-word in
    let w = c.args.words.now in
    passing_part l.invariant (get_or w l.word-index 0 ∷ []) _ (words_next w l.word-index c.loop-word-test.true)

pub loop-word-preserved : goal.loop-word-preserved
loop-word-preserved c =
    let l = c.loop-word in
    let w = c.args.words.now in
    passing_next l.invariant (get_or w l.word-index 0 ∷ []) _ (words_next w l.word-index c.loop-word-test.true) c.pass_word-p.ensures

pub shape_of-out : goal.shape_of-out
shape_of-out c = c.loop-word.invariant.writing.as_long

pub returns : goal.returns
returns c = passing_done c.loop-word.invariant (drop_of_length-le c.args.words.now c.loop-word-test.false)
