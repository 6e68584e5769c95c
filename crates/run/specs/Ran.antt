-- What a run hands back.
use Rattle.machine.specs.Machine.{Machine}
use Rattle.run_order.specs.Ending.{told_ending}
use Rattle.run_order.specs.Stalls.{told_stalls}
use Rattle.run_rules.specs.Run.{Summary, summary}
use Rattle.run.specs.declared.Ran.{Ran}

-- its answer in document 01's numbers, the number of its turns, the machine and cursor at its end, and each thread's last stall
abbrev pub told_run : Ran → Machine → Summary
told_run r m = summary (told_ending r.answer) r.turns m r.cursor (told_stalls r.stalls)
