use Rattle.std.proofs.Common.{rules}
use native.Mathlib.Omega.{arith}
use Rattle.run_rules.proofs.Halting.{due_after}
use Rattle.run_rules.proofs.Going.{going_start, going_ends, going_refused, going_on}
use Rattle.run.proofs.course.take_turns.Goals as goal

pub loop-answer-init : goal.loop-answer-init
loop-answer-init c = record { same = search rules; going = going_start _ _ _ _ c.requires _ c.no_stalls.ensures }

pub returns-in-Some-clause-answer : goal.returns-in-Some-clause-answer
returns-in-Some-clause-answer c cells =
    going_ends _ _ _ _ _ _ _ _ _ c.loop-answer.invariant.going c.halted.result c.halted.ensures _ c.in-Some.is cells

pub overflow_add-ran : goal.overflow_add-ran
overflow_add-ran c =
    omega (arith, c.ranges.budget, (due_after _ _ _ _ _ c.halted.ensures c.in_default.is).some)

pub returns-in-Some-refused_word-clause-answer : goal.returns-in-Some-refused_word-clause-answer
returns-in-Some-refused_word-clause-answer c cells =
    going_refused _ _ _ _ _ _ _ _ _ c.loop-answer.invariant.going c.halted.result c.halted.ensures c.in_default.is _ _ _ c.turn-t.ensures.answer _ c.after-ran.ensures c.refused_word.result c.refused_word.ensures _ c.in-Some-refused_word.is cells

pub quiet_after-quiet-requires : goal.quiet_after-quiet-requires
quiet_after-quiet-requires c = (due_after _ _ _ _ _ c.halted.ensures c.in_default.is).few

pub loop-answer-smaller : goal.loop-answer-smaller
loop-answer-smaller c = omega (arith, (due_after _ _ _ _ _ c.halted.ensures c.in_default.is).some)

pub loop-answer-preserved : goal.loop-answer-preserved
loop-answer-preserved c = record {
  same = search rules;
  going = going_on _ _ _ _ _ _ _ _ _ c.loop-answer.invariant.going c.halted.result c.halted.ensures c.in_default.is _ _ _ c.turn-t.ensures.answer _ c.after-ran.ensures c.refused_word.result c.refused_word.ensures c.in_default-refused_word.is _ c.quiet_after-quiet.ensures;
}
