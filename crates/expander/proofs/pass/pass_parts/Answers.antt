use Rattle.expander_rules.proofs.Rounds.{rounds_next, rounds_end}
use Rattle.expander_replay.proofs.Passing.{passing_start, passing_part, passing_next, passing_done}
use Rattle.expander.specs.Parts.{mop_part}
use Rattle.expander.proofs.MopParts.{parts_all}
use Rattle.expander.proofs.pass.pass_parts.Goals as goal

pub loop-o-init : goal.loop-o-init
loop-o-init c =
    let a = c.args in
    rw (← parts_all a.nine.now.words a.high a.word c.part_count-count.result c.part_count-count.ensures) (passing_start c.requires.2)

pub put_part-n-requires : goal.put_part-n-requires
put_part-n-requires c = (c.requires.0, c.requires.1, rw (← c.part_count-count.ensures) c.loop-o-test.true)

pub pass_words-p-requires : goal.pass_words-p-requires
pass_words-p-requires c =
    let f = mop_part c.args.nine.now.words c.args.high c.args.word in
    let next = rounds_next f c.loop-o.o c.part_count-count.result c.loop-o-test.true in
    rw c.put_part-n.ensures.0 (passing_part c.loop-o.invariant (f c.loop-o.o) _ next)

pub loop-o-preserved : goal.loop-o-preserved
loop-o-preserved c =
    let f = mop_part c.args.nine.now.words c.args.high c.args.word in
    let next = rounds_next f c.loop-o.o c.part_count-count.result c.loop-o-test.true in
    passing_next c.loop-o.invariant (f c.loop-o.o) _ next (rw c.put_part-n.ensures.0 at c.pass_words-p.ensures)

pub returns : goal.returns
returns c =
    let f = mop_part c.args.nine.now.words c.args.high c.args.word in
    passing_done c.loop-o.invariant (rounds_end f c.loop-o.o c.part_count-count.result c.loop-o-test.false)
