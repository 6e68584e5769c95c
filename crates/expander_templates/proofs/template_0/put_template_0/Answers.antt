use Prim.Native.Nat.{ℕ, ◌/◌, ◌%◌}
use mathlib.Core.Path.{ap, ◌∙◌}
use lib.Dec.{eqb}
use Rattle.expander_rules.specs.Templates.{mask_group, mask_round}
use Rattle.expander_rules.proofs.Rounds.{mask_next, mask_round_next, rounds_end}
use Rattle.expander_templates.proofs.Writing.{left_room, left_next, left_done}
use Rattle.expander_templates.proofs.template_0.put_template_0.Goals as goal

pub put_mask_group-p-requires : goal.put_mask_group-p-requires
put_mask_group-p-requires c =
    let a = c.args in
    let next = mask_round_next a.nine.now a.mask c.loop-i.rest c.loop-i.i a.count c.ranges.mask.fits c.loop-i.invariant.0 c.loop-i-test.true in
    left_room c.loop-i.invariant.1 (mask_group a.nine.now (eqb (c.loop-i.rest % 2) 1)) _ next

pub loop-i-preserved : goal.loop-i-preserved
loop-i-preserved c =
    let a = c.args in
    let next = mask_round_next a.nine.now a.mask c.loop-i.rest c.loop-i.i a.count c.ranges.mask.fits c.loop-i.invariant.0 c.loop-i-test.true in
    (ap (λ (n : ℕ). n / 2) c.loop-i.invariant.0 ∙ mask_next a.mask c.loop-i.i, left_next c.loop-i.invariant.1 next c.put_mask_group-p.ensures)

pub returns : goal.returns
returns c =
    let a = c.args in
    let l = c.loop-i in
    left_done l.invariant.1 (rounds_end (mask_round a.nine.now a.mask) l.i a.count c.loop-i-test.false)
