-- One turn, and a run: the record of all its turns, and how it ends.
use Rattle.machine.specs.Machine.{Machine}
use Rattle.machine.specs.Answers.{Told, accepted}
use Rattle.machine.specs.Outcomes.{Progress, idle}
use Rattle.step_rules.specs.Step.{Step, offer_of}
use Rattle.run_order.specs.declared.cursor.Cursor.{Cursor}
use Rattle.run_order.specs.Cursor.{Streams, next_word, moved_of}
use Rattle.std.specs.Prelude.{ℕ, zero, suc, List, [], ◌∷◌, length, Option, Some, None}
use Rattle.run_order.specs.Stalls.{Stalls, no_stalls, stalls_after}
use Rattle.run_order.specs.Ending.{halt_of, refused_word, quiet_after, RunEnd, Halted, halts, goes_on, budget_used}
use Rattle.run_rules.specs.Checks.{call_check, call_halt}

-- a turn: its outcome, and the machine and the cursor that it leaves
pub record Turn : Type 0 where
  pub outcome : Told Progress
  pub after : Machine
  pub cursor : Cursor

abbrev pub turned : Told Progress → Machine → Cursor → Turn
turned o m c = record { outcome = o; after = m; cursor = c }

-- a turn that offers a word
abbrev pub offered_turn : Step → Cursor → Turn
offered_turn x c = turned x.outcome x.after (moved_of x.outcome c)

abbrev pub by_word : Machine → Cursor → Option ℕ → Turn
by_word m c (Some w) = offered_turn (offer_of m c.next w) c
by_word m c None = turned (accepted idle) m (moved_of (accepted idle) c)

-- offers the next thread's word, or does nothing if its stream is used up
unfoldable pub turn_of : Streams → Machine → Cursor → Turn
turn_of s m c = by_word m c (next_word s c)

-- each turn in order, with its outcome and the machine and cursor after it; how it ended, or the number of a refused call; the machine and
-- cursor at the end
pub record Run : Type 0 where
  pub turns : List Turn
  pub answer : Told RunEnd
  pub after : Machine
  pub cursor : Cursor

-- a run that ends where it stands
abbrev pub stop : Told RunEnd → Machine → Cursor → Run
stop a m c = record { turns = []; answer = a; after = m; cursor = c }

-- a turn, and the run that follows it
abbrev pub before : Turn → Run → Run
before t r = record { turns = t ∷ r.turns; answer = r.answer; after = r.after; cursor = r.cursor }

-- the run, unless something ends it where it stands
abbrev pub unless : Halted → Machine → Cursor → Run → Run
unless (halts a) m c r = stop a m c
unless goes_on m c r = r

-- a run with `left` turns of its budget left, after `quiet` turns in a row without a passed word: each turn gets the machine
-- and cursor that the last one left
unfoldable pub run_from : ℕ → Streams → ℕ → Machine → Cursor → Run
run_from zero s quiet m c = unless (halt_of s c quiet zero) m c (stop (accepted budget_used) m c)
run_from (suc left) s quiet m c =
    let t = turn_of s m c in
    let rest = run_from left s (quiet_after t.outcome quiet) t.after t.cursor in
    let whole = before t (unless (refused_word t.outcome) t.after t.cursor rest) in
    unless (halt_of s c quiet (suc left)) m c whole

-- a call: a refused one takes no turn and changes nothing
unfoldable pub run_of : Streams → Machine → Cursor → ℕ → Run
run_of s m c budget =
    let r = run_from budget s 0 m c in
    unless (call_halt (call_check s m c budget)) m c r

-- each thread's last stall after these turns, the first of them from cursor c, where l were the last stalls before it
abbrev pub stalls_left : Cursor → List Turn → Stalls → Stalls
stalls_left c [] l = l
stalls_left c (t ∷ later) l = stalls_left t.cursor later (stalls_after t.outcome c.next l)

-- what comes back of a run: its answer, the number of its turns, the machine and cursor at its end, and each thread's last stall
pub record Summary : Type 0 where
  pub answer : Told RunEnd
  pub turns : ℕ
  pub after : Machine
  pub cursor : Cursor
  pub stalls : Stalls

abbrev pub summary : Told RunEnd → ℕ → Machine → Cursor → Stalls → Summary
summary a n m c l = record { answer = a; turns = n; after = m; cursor = c; stalls = l }

-- of a run from cursor c, where l were the last stalls before it
abbrev pub summary_from : Stalls → Cursor → Run → Summary
summary_from l c r = summary r.answer (length r.turns) r.after r.cursor (stalls_left c r.turns l)

-- none at a run's start
abbrev pub summary_of : Cursor → Run → Summary
summary_of c r = summary_from no_stalls c r
