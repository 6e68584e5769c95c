-- What a stuck run tells of each thread: what its word waits for on the machine that is left (document 02, K3).
use Rattle.std.specs.Prelude.{ℕ, ◌<◌, ◌≡◌, Option, Some, None}
use Rattle.machine.specs.Sizes.{thread_count}
use Rattle.machine.specs.Machine.{Machine}
use Rattle.machine.specs.Answers.{accepted}
use Rattle.machine.specs.Outcomes.{stalled}
use Rattle.step_rules.specs.Step.{offer_of}
use Rattle.run_order.specs.declared.cursor.Cursor.{Cursor}
use Rattle.run_order.specs.Cursor.{Streams, cursor, next_word}
use Rattle.run_order.specs.Ending.{stuck}
use Rattle.run_order.specs.Stalls.{Stall, unstalled, stalled_by, stall_of}
use Rattle.run_rules.specs.Run.{run_of, summary_of}

-- thread t's word at the cursor, unless its stream is used up
abbrev pub word_of : Streams → Cursor → ℕ → Option ℕ
word_of s c t = next_word s (cursor c.at0 c.at1 c.at2 t)

-- what offering a word to the machine answers
pub record Answers (m : Machine) (t w : ℕ) (x : Stall) : Type 0 where
  pub number : ℕ
  pub cause : ℕ
  pub last : x ≡ stalled_by number cause
  pub offered : (offer_of m t w).outcome ≡ accepted (stalled number cause)

-- a thread whose stream is used up has no last stall; of any other it is what offering its word to the machine answers
abbrev pub Says : Machine → ℕ → Option ℕ → Stall → Type 0
Says m t None x = x ≡ unstalled
Says m t (Some w) x = Answers m t w x

abbrev pub StuckSays : Type 0
StuckSays =
    (s : Streams) (m : Machine) (c : Cursor) (budget : ℕ) → (run_of s m c budget).answer ≡ accepted stuck →
    (t : ℕ) → t < thread_count →
    Says (run_of s m c budget).after t (word_of s (run_of s m c budget).cursor t) (stall_of (summary_of c (run_of s m c budget)).stalls t)
