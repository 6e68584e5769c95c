use mathlib.Core.List.{[], ◌∷◌}
use native.Mathlib.Omega.{arith}
use lib.ListN.{get_or}
use Rattle.expander_rules.proofs.ReplayLaws.{slots_next, slots_end}
use Rattle.expander_templates.proofs.Writing.{left_room, left_next, left_done}
use Rattle.expander_replay.proofs.pass.put_slots.Goals as goal

pub put_one-p-requires : goal.put_one-p-requires
put_one-p-requires c =
    let l = c.loop-i in
    let slots = c.args.slots.now in
    left_room l.invariant.1 (get_or slots l.slot 0 ∷ []) _ (slots_next slots l.slot l.i c.args.count c.loop-i-test.true)

pub loop-i-preserved : goal.loop-i-preserved
loop-i-preserved c =
    let l = c.loop-i in
    (omega arith, left_next l.invariant.1 (slots_next c.args.slots.now l.slot l.i c.args.count c.loop-i-test.true) c.put_one-p.ensures)

pub returns : goal.returns
returns c =
    let l = c.loop-i in
    left_done l.invariant.1 (slots_end c.args.slots.now l.slot l.i c.args.count c.loop-i-test.false)
