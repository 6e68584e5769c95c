use mathlib.Core.Path.{sym, ◌∙◌}
use mathlib.Core.Bool.{true}
use Rattle.word_rules.proofs.Offering.{control_held, control_going}
use Rattle.word_control.proofs.turn.Turn.gated.Goals as goal

pub returns-then-stalls : goal.returns-then-stalls
returns-then-stalls g c i named own changed =
    rw c.kept.ensures (control_held _ _ _ _ i (c.stalls.ensures ∙ named) c.if-stalls.true)

pub returns : goal.returns
returns g c i named own changed =
    let s = c.args.self in
    rw (changed _ (rw c.drop_if.ensures at c.change.ensures))
    (rw (own (sym c.stalls.ensures ∙ c.if-stalls.false)) at (control_going true true _ s.blocks s.drops s.control s.thread i (c.stalls.ensures ∙ named) c.if-stalls.false))
