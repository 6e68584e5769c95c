-- Condition 3: the course of a run does not depend on what registers, Config words, Dest and source cells hold. The comments in
-- quotation marks are the customer's condition, whole.
use Rattle.std.specs.Prelude.{ℕ, ◌≡◌, true, length}
use mathlib.Core.List.{Forall₂}
use Rattle.machine.specs.Machine.{Machine}
use Rattle.machine.specs.Formed.{well_formed}
use Rattle.step_rules.specs.Alike.{Agree}
use Rattle.run_order.specs.declared.cursor.Cursor.{Cursor}
use Rattle.run_order.specs.Cursor.{Streams}
use Rattle.run_order.specs.Stalls.{no_stalls}
use Rattle.run_rules.specs.Run.{Turn, Run, run_of, stalls_left}

-- two turns
pub record TurnsAlike (t u : Turn) : Type 0 where
  -- "Each of those turns is idle, passes, stalls or refuses alike in both, with the same numbers." A stall's cause is one of them
  pub outcome : t.outcome ≡ u.outcome
  -- "After each of them, and at the end, the two machines still agree on everything in that list."
  pub agree : Agree t.after u.after
  -- and so do the positions and the next thread
  pub cursor : t.cursor ≡ u.cursor

-- two runs from cursor c
pub record RunsAlike (c : Cursor) (p q : Run) : Type 0 where
  -- "Both take equally many turns."
  pub count : length p.turns ≡ length q.turns
  -- the first turns of both are alike, the second, and so on to the last
  pub each : Forall₂ TurnsAlike p.turns q.turns
  -- "and at the end"
  pub agree : Agree p.after q.after
  -- "Both end with equal answers, turn counts, positions and next thread."
  pub answer : p.answer ≡ q.answer
  pub cursor : p.cursor ≡ q.cursor
  -- "Condition 3 covers the causes too." (document 02, K3)
  pub stalls : stalls_left c p.turns no_stalls ≡ stalls_left c q.turns no_stalls

-- "Take any two well-formed machines that agree on thread settings, mutexes, semaphores, waits, bank owners and bank pointers,
-- whatever either holds in registers, configuration words, Dest and source cells. Run both by the rules of condition 2 on the same
-- three streams, whatever words are in them, from the same positions and next thread, with the same budget, large or small."
-- All streams, cursors and budgets are meant, also those that the run refuses.
abbrev pub Isolated : Type 0
Isolated =
    (s : Streams) (c : Cursor) (budget : ℕ) (m n : Machine) →
    well_formed m ≡ true → well_formed n ≡ true → Agree m n →
    RunsAlike c (run_of s m c budget) (run_of s n c budget)
