-- Every turn of a run can be looked at: with a budget of k turns, no more than the run took, a run takes just the first k of them, so that
-- the machine and cursor after turn k are those that `run` itself hands back.
use Rattle.std.specs.Prelude.{ℕ, ◌≤◌, ◌≡◌, List, [], ◌∷◌, length, take}
use Rattle.machine.specs.Machine.{Machine}
use Rattle.run_order.specs.declared.cursor.Cursor.{Cursor}
use Rattle.run_order.specs.Cursor.{Streams}
use Rattle.run_rules.specs.Run.{Turn, Run, run_of}

-- the machine and the cursor that turns leave, from those that the first of them found
abbrev pub machine_left : Machine → List Turn → Machine
machine_left m [] = m
machine_left m (t ∷ later) = machine_left t.after later

abbrev pub cursor_left : Cursor → List Turn → Cursor
cursor_left c [] = c
cursor_left c (t ∷ later) = cursor_left t.cursor later

-- a run of just these turns
pub record JustThese (m : Machine) (c : Cursor) (turns : List Turn) (r : Run) : Type 0 where
  pub turns_taken : r.turns ≡ turns
  pub after : r.after ≡ machine_left m turns
  pub cursor : r.cursor ≡ cursor_left c turns

abbrev pub Observed : Type 0
Observed =
    (s : Streams) (m : Machine) (c : Cursor) (budget k : ℕ) → k ≤ length (run_of s m c budget).turns →
    JustThese m c (take k (run_of s m c budget).turns) (run_of s m c k)
