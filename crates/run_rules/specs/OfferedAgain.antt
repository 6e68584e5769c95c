-- "A word stalls only for a cause named there; a stall changes nothing, and the same word is offered again."
use Rattle.std.specs.Prelude.{ℕ, ◌+◌, ◌<◌, ◌≡◌, Bool, true, false, cond, List, ◌∷◌, ◌++◌, eqb}
use Rattle.machine.specs.Sizes.{thread_count}
use Rattle.machine.specs.Machine.{Machine}
use Rattle.machine.specs.Answers.{Told, accepted, refused}
use Rattle.machine.specs.Outcomes.{Progress, stalled, has_passed}
use Rattle.run_order.specs.declared.cursor.Cursor.{Cursor}
use Rattle.run_order.specs.Cursor.{following, Streams, next_word}
use Rattle.run_rules.specs.Run.{Turn, turn_of, run_of}
use Rattle.run_rules.specs.Observed.{cursor_left}

-- a thread's position
abbrev pub position_of : Cursor → ℕ → ℕ
position_of c t = cond (eqb t 0) c.at0 (cond (eqb t 1) c.at1 c.at2)

abbrev pub was_refused : Told Progress → Bool
was_refused (accepted p) = false
was_refused (refused n vs) = true

-- from c to e by a turn with this outcome
pub record Moves (o : Told Progress) (c e : Cursor) : Type 0 where
  -- no position moves but that of the thread whose turn it is, and that only past a passed word
  pub others : (t : ℕ) → t < thread_count → (t ≡ c.next → ⊥) → position_of e t ≡ position_of c t
  pub own : position_of e c.next ≡ cond (has_passed o) (position_of c c.next + 1) (position_of c c.next)
  -- an idle, passed or stalled turn goes on to the following thread; a refused word's stays
  pub next : e.next ≡ cond (was_refused o) c.next (following c.next)

-- the next turn of the same thread offers the same word
pub record SameWord (s : Streams) (c e : Cursor) : Type 0 where
  pub thread : e.next ≡ c.next
  pub word : next_word s e ≡ next_word s c

pub record OfferedAgain : Type 0 where
  pub moves : (s : Streams) (m : Machine) (c : Cursor) → c.next < thread_count → Moves (turn_of s m c).outcome c (turn_of s m c).cursor
  -- where a turn of a run stalls and the two after it are not refused, the word that it was offered is its thread's word again
  pub again : (s : Streams) (m : Machine) (c : Cursor) (budget : ℕ) (earlier : List Turn) (t u v : Turn) (later : List Turn) →
      (run_of s m c budget).turns ≡ earlier ++ (t ∷ u ∷ v ∷ later) →
      (n cause : ℕ) → t.outcome ≡ accepted (stalled n cause) → was_refused v.outcome ≡ false →
      SameWord s (cursor_left c earlier) v.cursor
