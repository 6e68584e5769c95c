-- Stuck is for good: a run from where a stuck run ended passes no word and leaves the machine as it is.
use Rattle.std.specs.Prelude.{ℕ, ◌≤◌, ◌≡◌, Bool, true, false, cond, ltb, length}
use mathlib.Core.List.{Memᴰ}
use Rattle.machine.specs.Sizes.{budget_most}
use Rattle.machine.specs.Machine.{Machine}
use Rattle.machine.specs.Answers.{Told, accepted, refused}
use Rattle.machine.specs.Outcomes.{Progress, idle, passed, stalled}
use Rattle.run_order.specs.declared.cursor.Cursor.{Cursor}
use Rattle.run_order.specs.Cursor.{Streams}
use Rattle.run_order.specs.Ending.{stuck, budget_used}
use Rattle.run_rules.specs.Run.{Turn, Run, run_of}

-- idle or stalled
abbrev pub waiting : Told Progress → Bool
waiting (accepted idle) = true
waiting (accepted passed) = false
waiting (accepted (stalled n cause)) = true
waiting (refused n vs) = false

pub record SamePositions (c d : Cursor) : Type 0 where
  pub at0 : c.at0 ≡ d.at0
  pub at1 : c.at1 ≡ d.at1
  pub at2 : c.at2 ≡ d.at2

-- a turn that leaves the machine m and the positions of c as they are
pub record StillTurn (m : Machine) (c : Cursor) (t : Turn) : Type 0 where
  pub outcome : waiting t.outcome ≡ true
  pub after : t.after ≡ m
  pub positions : SamePositions t.cursor c

-- a run, of this budget, that leaves them so in every turn and at its end
pub record StaysStuck (m : Machine) (c : Cursor) (budget : ℕ) (r : Run) : Type 0 where
  pub each : (t : Turn) → Memᴰ t r.turns → StillTurn m c t
  pub count : length r.turns ≡ cond (ltb budget 3) budget 3
  pub answer : r.answer ≡ cond (ltb budget 3) (accepted budget_used) (accepted stuck)
  pub after : r.after ≡ m
  pub positions : SamePositions r.cursor c

abbrev pub StuckForGood : Type 0
StuckForGood =
    (s : Streams) (m : Machine) (c : Cursor) (budget again : ℕ) →
    (run_of s m c budget).answer ≡ accepted stuck → again ≤ budget_most →
    StaysStuck (run_of s m c budget).after (run_of s m c budget).cursor again
    (run_of s (run_of s m c budget).after (run_of s m c budget).cursor again)
