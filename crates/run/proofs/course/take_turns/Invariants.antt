use Prim.Native.Nat.{◌-◌}
use Rattle.machine.specs.Lent.{machine_at, SameLoans}
use Rattle.run_order.specs.Cursor.{streams_in}
use Rattle.run_order.specs.Stalls.{told_stalls}
use Rattle.run_rules.proofs.Going.{Going}
use Rattle.run.proofs.course.take_turns.Given as goal

abbrev pub invariant-loop-answer : goal.invariant-loop-answer
invariant-loop-answer l =
    record {
      same : SameLoans l.stores l.fn.stores;
      going : Going (streams_in l.streams) l.budget (machine_at l.fn.control l.fn.stores) l.fn.cursor (machine_at l.ran.control l.stores) l.ran.cursor l.quiet l.ran.turns (told_stalls l.ran.stalls);
    }

abbrev pub decreases-loop-answer : goal.decreases-loop-answer
decreases-loop-answer l = l.budget - l.ran.turns
