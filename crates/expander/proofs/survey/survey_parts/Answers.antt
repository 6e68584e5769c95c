use Rattle.expander_rules.specs.Stream.{mop_words}
use Rattle.expander_rules.proofs.Rounds.{rounds_next, rounds_end}
use Rattle.expander_replay.proofs.Surveys.{onward_start, onward_next, onward_stopped, onward_done}
use Rattle.expander.specs.Parts.{mop_part}
use Rattle.expander.proofs.MopParts.{parts_all}
use Rattle.expander.proofs.survey.survey_parts.Goals as goal

pub loop-o-init : goal.loop-o-init
loop-o-init c =
    let a = c.args in
    let m = a.nine.now.words in
    rw (← parts_all m a.high a.word c.part_count-count.result c.part_count-count.ensures) (onward_start (mop_words m a.high a.word) c.requires.2)

pub put_part-n-requires : goal.put_part-n-requires
put_part-n-requires c = (c.requires.0, c.requires.1, rw (← c.part_count-count.ensures) c.loop-o-test.true)

pub returns-in_err-s : goal.returns-in_err-s
returns-in_err-s c =
    let f = mop_part c.args.nine.now.words c.args.high c.args.word in
    let next = rounds_next f c.loop-o.o c.part_count-count.result c.loop-o-test.true in
    rw c.from_residual.ensures (onward_stopped c.loop-o.invariant (f c.loop-o.o) _ next (rw c.put_part-n.ensures.0 at c.in_err-s.ensures))

pub loop-o-preserved : goal.loop-o-preserved
loop-o-preserved c =
    let f = mop_part c.args.nine.now.words c.args.high c.args.word in
    let next = rounds_next f c.loop-o.o c.part_count-count.result c.loop-o-test.true in
    onward_next c.loop-o.invariant (f c.loop-o.o) _ next (rw c.put_part-n.ensures.0 at c.in_ok-s.ensures)

pub returns : goal.returns
returns c =
    let f = mop_part c.args.nine.now.words c.args.high c.args.word in
    onward_done c.loop-o.invariant (rounds_end f c.loop-o.o c.part_count-count.result c.loop-o-test.false)
