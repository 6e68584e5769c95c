use Rattle.expander_rules.specs.Templates.{nth, outer_round}
use Rattle.expander_rules.proofs.Rounds.{rounds_next, rounds_end}
use Rattle.expander_templates.proofs.Writing.{left_room, left_next, left_done}
use Rattle.expander_templates.proofs.template_1.put_template_1.Goals as goal

pub put_outer-p-requires : goal.put_outer-p-requires
put_outer-p-requires c =
    let m = c.args.nine.now in
    let h = c.loop-o-test.true in
    (h, left_room c.loop-o.invariant (outer_round m c.loop-o.o) _ (rounds_next (outer_round m) c.loop-o.o (nth m 0) h))

pub loop-o-preserved : goal.loop-o-preserved
loop-o-preserved c =
    let m = c.args.nine.now in
    left_next c.loop-o.invariant (rounds_next (outer_round m) c.loop-o.o (nth m 0) c.loop-o-test.true) c.put_outer-p.ensures

pub returns : goal.returns
returns c =
    let m = c.args.nine.now in
    left_done c.loop-o.invariant (rounds_end (outer_round m) c.loop-o.o (nth m 0) c.loop-o-test.false)
