use mathlib.Core.Path.{ap, ◌∙◌}
use Rattle.std.proofs.Common.{rules}
use Rattle.machine.specs.Machine.{Machine}
use Rattle.step_rules.proofs.Ways.{same_machine}
use Rattle.run_order.specs.Cursor.{streams_in}
use Rattle.run_rules.specs.Run.{run_from, summary_of}
use Rattle.run_rules.proofs.Calls.{call_refused_lem, call_ready, call_sizes, call_taken}
use Rattle.run.specs.Ran.{told_run}
use Rattle.run.proofs.run.Goals as goal

pub returns-in-Err : goal.returns-in-Err
returns-in-Err c = rw c.no_stalls.ensures (ap (summary_of _) (call_refused_lem _ _ _ _ _ c.check_call.ensures _ c.in-Err.is))

pub unreachable-requires : goal.unreachable-requires
unreachable-requires c =
    let f = call_sizes _ _ _ _ _ c.check_call.ensures c.in_default.not-Err in
    search rules

pub unreachable-requires-in_default-as_mut_array-2 : goal.unreachable-requires-in_default-as_mut_array-2
unreachable-requires-in_default-as_mut_array-2 c =
    let f = call_sizes _ _ _ _ _ c.check_call.ensures c.in_default.not-Err in
    search rules

pub unreachable-requires-in_default-as_mut_array-3 : goal.unreachable-requires-in_default-as_mut_array-3
unreachable-requires-in_default-as_mut_array-3 c =
    let f = call_sizes _ _ _ _ _ c.check_call.ensures c.in_default.not-Err in
    search rules

pub unreachable-requires-in_default-as_mut_array-4 : goal.unreachable-requires-in_default-as_mut_array-4
unreachable-requires-in_default-as_mut_array-4 c =
    let f = call_sizes _ _ _ _ _ c.check_call.ensures c.in_default.not-Err in
    search rules

pub unreachable-requires-in_default-as_mut_array-5 : goal.unreachable-requires-in_default-as_mut_array-5
unreachable-requires-in_default-as_mut_array-5 c =
    let f = call_sizes _ _ _ _ _ c.check_call.ensures c.in_default.not-Err in
    search rules

pub unreachable-requires-in_default-as_mut_array-6 : goal.unreachable-requires-in_default-as_mut_array-6
unreachable-requires-in_default-as_mut_array-6 c =
    let f = call_sizes _ _ _ _ _ c.check_call.ensures c.in_default.not-Err in
    search rules

pub take_turns-requires : goal.take_turns-requires
take_turns-requires c =
    let r = call_ready _ _ _ _ _ c.check_call.ensures c.in_default.not-Err in
    record { cells = c.args.dest.now; ready = search rules }

pub returns : goal.returns
returns c =
    let a = c.args in
    let same = c.take_turns.ensures.same in
    let p5 = c.as_mut_array-5 in
    let p6 = c.as_mut_array-6 in
    let q5 = c.in-Some-as_mut_array-4 in
    let q6 = c.in-Some-as_mut_array-5 in
    ap (told_run c.take_turns.result)
    (same_machine (search rules) (search rules) (search rules) (search rules) (search rules) (search rules))
    ∙ c.take_turns.ensures.answer a.dest.now
    ∙ ap (λ (m : Machine). summary_of a.cursor (run_from a.budget (streams_in a.streams) 0 m a.cursor))
    (same_machine (search rules) (search rules) (search rules) (search rules) (search rules) (search rules))
    ∙ ap (summary_of a.cursor) (call_taken _ _ _ _ _ c.check_call.ensures c.in_default.not-Err)
