-- How a run ends: before a turn, or by a refused word.
use Rattle.std.specs.Prelude.{ℕ, ◌+◌, cond, List, leb, eqb, Option, Some, None}
use Rattle.machine.specs.Numbers.{number_of, values_of}
use Rattle.machine.specs.Answers.{Told, accepted, refused, refusal}
use Rattle.machine.specs.Outcomes.{Progress, idle, passed, stalled}
use Rattle.run_order.specs.declared.cursor.Cursor.{Cursor}
use Rattle.run_order.specs.declared.ending.Ending.{Ending}
use Rattle.run_order.specs.declared.ending.Ending.TheVariants.{Finished, Stuck, BudgetUsed, WordRefused, CallRefused}
use Rattle.run_order.specs.Cursor.{Streams, used_up}

-- document 01's *finished*, *stuck*, *budget* and *refused*, the last with the word's number and values
pub data RunEnd : Type 0 where
  finished : RunEnd
  stuck : RunEnd
  budget_used : RunEnd
  word_refused : ℕ → List ℕ → RunEnd

-- what a call of a run answers: how the run ended, or the number of a refused call
abbrev pub told_ending : Ending → Told RunEnd
told_ending Finished = accepted finished
told_ending Stuck = accepted stuck
told_ending BudgetUsed = accepted budget_used
told_ending (WordRefused r) = accepted (word_refused (number_of r) (values_of r))
told_ending (CallRefused r) = refusal r

-- whether a run ends here, and how
pub data Halted : Type 0 where
  halts : Told RunEnd → Halted
  goes_on : Halted

abbrev pub told_halt : Option Ending → Halted
told_halt (Some a) = halts (told_ending a)
told_halt None = goes_on

-- before each turn, first that applies: all streams used up; three turns in a row without a passed word; budget used
unfoldable pub halt_of : Streams → Cursor → ℕ → ℕ → Halted
halt_of s c quiet left =
    cond (used_up s c) (halts (accepted finished))
    (cond (leb 3 quiet) (halts (accepted stuck))
    (cond (eqb left 0) (halts (accepted budget_used))
    goes_on))

-- a refused word ends the run
unfoldable pub refused_word : Told Progress → Halted
refused_word (accepted idle) = goes_on
refused_word (accepted passed) = goes_on
refused_word (accepted (stalled n cause)) = goes_on
refused_word (refused n vs) = halts (accepted (word_refused n vs))

-- turns in a row without a passed word, a turn with this outcome included
unfoldable pub quiet_after : Told Progress → ℕ → ℕ
quiet_after (accepted idle) quiet = quiet + 1
quiet_after (accepted passed) quiet = 0
quiet_after (accepted (stalled n cause)) quiet = quiet + 1
quiet_after (refused n vs) quiet = quiet + 1
