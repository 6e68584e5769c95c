use mathlib.Core.Path.{ap, ◌∙◌}
use Rattle.std.proofs.Common.{rules}
use Rattle.machine.specs.Outcomes.{told_outcome}
use Rattle.step_rules.specs.Step.{stepped}
use Rattle.step_rules.proofs.Ways.{call_refused_lem, call_shows, call_sizes, call_taken, same_machine, thread_named}
use Rattle.step.proofs.Same.{same_offer}
use Rattle.step.proofs.step.Goals as goal

pub returns-in-Err : goal.returns-in-Err
returns-in-Err c = call_refused_lem _ _ _ c.check_step.ensures _ _ c.in-Err.is

pub unreachable-requires : goal.unreachable-requires
unreachable-requires c =
    let f = call_shows _ _ _ c.check_step.ensures c.in_default.not-Err in
    search rules

pub unreachable-requires-in_default-as_mut_array : goal.unreachable-requires-in_default-as_mut_array
unreachable-requires-in_default-as_mut_array c =
    let f = call_sizes _ _ _ c.check_step.ensures c.in_default.not-Err in
    search rules

pub unreachable-requires-in_default-as_mut_array-2 : goal.unreachable-requires-in_default-as_mut_array-2
unreachable-requires-in_default-as_mut_array-2 c =
    let f = call_sizes _ _ _ c.check_step.ensures c.in_default.not-Err in
    search rules

pub unreachable-requires-in_default-as_mut_array-3 : goal.unreachable-requires-in_default-as_mut_array-3
unreachable-requires-in_default-as_mut_array-3 c =
    let f = call_sizes _ _ _ c.check_step.ensures c.in_default.not-Err in
    search rules

pub unreachable-requires-in_default-as_mut_array-4 : goal.unreachable-requires-in_default-as_mut_array-4
unreachable-requires-in_default-as_mut_array-4 c =
    let f = call_sizes _ _ _ c.check_step.ensures c.in_default.not-Err in
    search rules

pub unreachable-requires-in_default-as_mut_array-5 : goal.unreachable-requires-in_default-as_mut_array-5
unreachable-requires-in_default-as_mut_array-5 c =
    let f = call_sizes _ _ _ c.check_step.ensures c.in_default.not-Err in
    search rules

pub unreachable-requires-in_default-as_mut_array-6 : goal.unreachable-requires-in_default-as_mut_array-6
unreachable-requires-in_default-as_mut_array-6 c =
    let f = call_sizes _ _ _ c.check_step.ensures c.in_default.not-Err in
    search rules

pub offer-requires : goal.offer-requires
offer-requires c = (call_shows _ _ _ c.check_step.ensures c.in_default.not-Err).control

pub returns : goal.returns
returns c =
    let x = c.offer.result in
    let a = c.args in
    let same = c.offer.ensures.same in
    let p5 = c.as_mut_array-5 in
    let p6 = c.as_mut_array-6 in
    let q5 = c.in-Some-as_mut_array-5 in
    let q6 = c.in-Some-as_mut_array-6 in
    ap (stepped (told_outcome x.outcome))
    (same_machine (search rules) (search rules) (search rules) (search rules) (search rules) (search rules))
    ∙ c.offer.ensures.answer a.dest.now
    ∙ same_offer _ _ _ (thread_named _ _ _ c.new.ensures c.in-Some.is) (search rules) (search rules) (search rules) (search rules) (search rules) (search rules)
    ∙ call_taken _ _ _ c.check_step.ensures c.in_default.not-Err a.word
