-- What a run of a whole machine comes to.
use Rattle.machine.specs.Machine.{Machine}
use Rattle.run_order.specs.Ending.{told_ending}
use Rattle.run_order.specs.Stalls.{told_stalls}
use Rattle.run_rules.specs.Run.{Summary, summary}
use Rattle.whole_machine.specs.declared.runs.WholeRan.{WholeRan}

-- its answer in document 01's numbers, the number of its turns, the machine and cursor at its end, and each thread's last stall
abbrev pub ran_summary : WholeRan → Machine → Summary
ran_summary r m = summary (told_ending r.answer) r.turns m r.cursor (told_stalls r.stalls)
