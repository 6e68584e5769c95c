-- Turns follow one another: "Each turn gets the machine and cursor that the last one left, the first those handed in; nothing else
-- writes them meanwhile."
use Rattle.std.specs.Prelude.{ℕ, ◌≤◌, ◌≡◌, List, [], ◌∷◌, length}
use Rattle.machine.specs.Machine.{Machine}
use Rattle.run_order.specs.declared.cursor.Cursor.{Cursor}
use Rattle.run_order.specs.Cursor.{Streams}
use Rattle.run_rules.specs.Run.{Turn, turn_of, Run, run_of}

-- turns that lead from m and c to the machine and cursor at the end, each of them what the rules make of what it found
abbrev pub Leads : Streams → Machine → Cursor → List Turn → Machine → Cursor → Type 0
Leads s m c [] after end = (after ≡ m) × (end ≡ c)
Leads s m c (t ∷ later) after end = (t ≡ turn_of s m c) × Leads s t.after t.cursor later after end

abbrev pub Chain : Streams → Machine → Cursor → Run → Type 0
Chain s m c r = Leads s m c r.turns r.after r.cursor

pub record Chained : Type 0 where
  pub each : (s : Streams) (m : Machine) (c : Cursor) (budget : ℕ) → Chain s m c (run_of s m c budget)
  -- a run takes no more turns than its budget
  pub within : (s : Streams) (m : Machine) (c : Cursor) (budget : ℕ) → length (run_of s m c budget).turns ≤ budget
