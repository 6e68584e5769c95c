-- How a run ends, as facts about its turns and its end: "Before each turn, first that applies: all streams used up, *finished*; three
-- turns in a row in this run without a passed word, *stuck*; budget used, *budget*."
use Rattle.std.specs.Prelude.{ℕ, ◌+◌, ◌<◌, ◌≤◌, ◌≡◌, true, false, cond, List, [], ◌∷◌, ◌++◌, ◌⊎◌, length}
use Rattle.machine.specs.Machine.{Machine}
use Rattle.machine.specs.Answers.{Told, accepted, refused}
use Rattle.machine.specs.Outcomes.{Progress, has_passed}
use Rattle.run_order.specs.declared.cursor.Cursor.{Cursor}
use Rattle.run_order.specs.Ending.{RunEnd, finished, stuck, budget_used, word_refused}
use Rattle.run_order.specs.Cursor.{Streams, used_up}
use Rattle.run_rules.specs.Run.{Turn, Run, stop, run_of}
use Rattle.run_rules.specs.Observed.{machine_left, cursor_left}

-- how many turns at the end of these, with `quiet` before them, went without a passed word
abbrev pub quiet_left : ℕ → List Turn → ℕ
quiet_left quiet [] = quiet
quiet_left quiet (t ∷ later) = quiet_left (cond (has_passed t.outcome) 0 (quiet + 1)) later

-- a refused word ends the run: nothing follows it
abbrev pub MayFollow : Told Progress → List Turn → Type 0
MayFollow (accepted p) later = Unit
MayFollow (refused n vs) later = later ≡ []

-- before each of these turns none of the three applied, and no turn follows a refused one
abbrev pub EachDue : Streams → ℕ → Cursor → List Turn → Type 0
EachDue s quiet c [] = Unit
EachDue s quiet c (t ∷ later) =
    (used_up s c ≡ false) × (quiet < 3) × MayFollow t.outcome later
    × EachDue s (cond (has_passed t.outcome) 0 (quiet + 1)) t.cursor later

-- a run from m and c that ended by a refused word: the word is the last turn's, and keeps its position; "the work of earlier turns stays
-- in the machine", and nothing else is done
pub record ByWord (m : Machine) (c : Cursor) (n : ℕ) (vs : List ℕ) (r : Run) : Type 0 where
  -- by 2 or 3 alone
  pub number : (n ≡ 2) ⊎ (n ≡ 3)
  pub values : vs ≡ []
  pub earlier : List Turn
  pub last : Turn
  pub turns_taken : r.turns ≡ earlier ++ (last ∷ [])
  pub outcome : last.outcome ≡ refused n vs
  pub after : r.after ≡ machine_left m earlier
  pub cursor : r.cursor ≡ cursor_left c earlier

-- a call of a run that was refused takes no turn: by 4, 10, 5 or 6
pub record ByCall (m : Machine) (c : Cursor) (n : ℕ) (vs : List ℕ) (r : Run) : Type 0 where
  pub number : (n ≡ 4) ⊎ ((n ≡ 10) ⊎ ((n ≡ 5) ⊎ (n ≡ 6)))
  pub values : vs ≡ []
  pub whole : r ≡ stop (refused n vs) m c

-- what is so at the end of a run, by its answer
abbrev pub EndsAs : Streams → Machine → Cursor → ℕ → Run → Told RunEnd → Type 0
EndsAs s m c budget r (accepted finished) = used_up s r.cursor ≡ true
EndsAs s m c budget r (accepted stuck) = (used_up s r.cursor ≡ false) × (3 ≤ quiet_left 0 r.turns)
EndsAs s m c budget r (accepted budget_used) =
    (used_up s r.cursor ≡ false) × (quiet_left 0 r.turns < 3) × (length r.turns ≡ budget)
EndsAs s m c budget r (accepted (word_refused n vs)) = ByWord m c n vs r
EndsAs s m c budget r (refused n vs) = ByCall m c n vs r

pub record Ended : Type 0 where
  pub due : (s : Streams) (m : Machine) (c : Cursor) (budget : ℕ) → EachDue s 0 c (run_of s m c budget).turns
  pub ends : (s : Streams) (m : Machine) (c : Cursor) (budget : ℕ) → EndsAs s m c budget (run_of s m c budget) (run_of s m c budget).answer
