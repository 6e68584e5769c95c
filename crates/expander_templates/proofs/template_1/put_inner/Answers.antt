use mathlib.Core.List.{[], ◌∷◌}
use mathlib.Core.Path.{refl}
use native.Mathlib.Omega.{arith}
use Rattle.expander_rules.specs.Templates.{nth, inner_round}
use Rattle.expander_rules.proofs.Rounds.{inner_next, inner_last, rounds_none}
use Rattle.expander_templates.proofs.Writing.{left_room, left_next, left_done, wrote_none}
use Rattle.expander_templates.proofs.template_1.put_inner.Goals as goal

pub returns-then-count-eq0 : goal.returns-then-count-eq0
returns-then-count-eq0 c =
    let a = c.args in
    rw (rounds_none (inner_round a.nine.now a.last) (nth a.nine.now 1) c.if-count-eq0.true) (wrote_none a.out.now a.at)

pub put_pair-p-requires : goal.put_pair-p-requires
put_pair-p-requires c =
    let m = c.args.nine.now in
    left_room c.loop-j.invariant (nth m 5 ∷ nth m 6 ∷ []) _ (inner_next m c.args.last c.loop-j.j (omega arith))

pub loop-j-preserved : goal.loop-j-preserved
loop-j-preserved c =
    let next = inner_next c.args.nine.now c.args.last c.loop-j.j (omega arith) in
    left_next c.loop-j.invariant next c.put_pair-p.ensures

pub put_pair-requires : goal.put_pair-requires
put_pair-requires c =
    let m = c.args.nine.now in
    left_room c.loop-j.invariant (nth m 5 ∷ c.args.last ∷ []) [] (inner_last m c.args.last c.loop-j.j (omega arith))

pub returns : goal.returns
returns c =
    let last = inner_last c.args.nine.now c.args.last c.loop-j.j (omega arith) in
    left_done (left_next c.loop-j.invariant last c.put_pair.ensures) refl
