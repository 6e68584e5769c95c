-- What turns and runs leave as it is.
use Rattle.std.specs.Prelude.{ℕ, ◌≡◌, true, false, List}
use Rattle.machine.specs.Machine.{Machine}
use Rattle.machine.specs.Formed.{well_formed}
use Rattle.machine.specs.Answers.{refused}
use Rattle.machine.specs.Outcomes.{has_passed}
use Rattle.run_order.specs.declared.cursor.Cursor.{Cursor}
use Rattle.run_order.specs.Cursor.{Streams}
use Rattle.run_rules.specs.Run.{turn_of, stop, run_of}
use Rattle.run_rules.specs.StuckForGood.{SamePositions}

-- a turn without a passed word: "a stall changes nothing"
pub record QuietTurn (s : Streams) (m : Machine) (c : Cursor) : Type 0 where
  pub after : (turn_of s m c).after ≡ m
  pub positions : SamePositions (turn_of s m c).cursor c

pub record RunKeeps : Type 0 where
  pub quiet : (s : Streams) (m : Machine) (c : Cursor) → has_passed (turn_of s m c).outcome ≡ false → QuietTurn s m c
  -- a refused call takes no turn and changes nothing
  pub refused_call : (s : Streams) (m : Machine) (c : Cursor) (budget n : ℕ) (vs : List ℕ) →
      (run_of s m c budget).answer ≡ refused n vs → run_of s m c budget ≡ stop (refused n vs) m c
  -- a well-formed machine is well formed after every run, refused or not
  pub formed : (s : Streams) (m : Machine) (c : Cursor) (budget : ℕ) → well_formed m ≡ true → well_formed (run_of s m c budget).after ≡ true
