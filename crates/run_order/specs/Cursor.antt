-- The three streams of words, what a cursor finds in them, and how a turn moves it.
use Rattle.std.specs.Prelude.{ℕ, ◌+◌, cond, Bool, ◌&&◌, ltb, eqb, leb, List, length, get_or, Option, Some, None}
use Rattle.machine.specs.Answers.{Told, accepted, refused}
use Rattle.machine.specs.Outcomes.{Progress, idle, passed, stalled}
use Rattle.run_order.specs.declared.cursor.Cursor.{Cursor}
use Rattle.run_order.specs.declared.cursor.StreamsView.{StreamsView}

abbrev pub cursor : ℕ → ℕ → ℕ → ℕ → Cursor
cursor at0 at1 at2 next = record { at0 = at0; at1 = at1; at2 = at2; next = next }

-- the words of threads 0, 1 and 2
pub record Streams : Type 0 where
  pub s0 : List ℕ
  pub s1 : List ℕ
  pub s2 : List ℕ

abbrev pub streams : List ℕ → List ℕ → List ℕ → Streams
streams s0 s1 s2 = record { s0 = s0; s1 = s1; s2 = s2 }

-- those that are lent to be read
abbrev pub streams_in : StreamsView → Streams
streams_in v = streams v.s0.now v.s1.now v.s2.now

-- the word at a position, unless the stream is used up there
unfoldable pub word_at : List ℕ → ℕ → Option ℕ
word_at s i = cond (ltb i (length s)) (Some (get_or s i 0)) None

-- the next thread's word
unfoldable pub next_word : Streams → Cursor → Option ℕ
next_word s c =
    cond (eqb c.next 0) (word_at s.s0 c.at0)
    (cond (eqb c.next 1) (word_at s.s1 c.at1)
    (word_at s.s2 c.at2))

-- all streams used up
unfoldable pub used_up : Streams → Cursor → Bool
used_up s c = leb (length s.s0) c.at0 && (leb (length s.s1) c.at1 && leb (length s.s2) c.at2)

-- the following thread, 0 after 2
unfoldable pub following : ℕ → ℕ
following t = cond (ltb t 2) (t + 1) 0

-- the following thread is next, and every position is kept
unfoldable pub onward_of : Cursor → Cursor
onward_of c = cursor c.at0 c.at1 c.at2 (following c.next)

-- the same, past the word of the thread whose turn it was
unfoldable pub past_of : Cursor → Cursor
past_of c =
    cond (eqb c.next 0) (cursor (c.at0 + 1) c.at1 c.at2 (following c.next))
    (cond (eqb c.next 1) (cursor c.at0 (c.at1 + 1) c.at2 (following c.next))
    (cursor c.at0 c.at1 (c.at2 + 1) (following c.next)))

-- a passed word is left behind; a refused one keeps its position, and the next thread stays on it
unfoldable pub moved_of : Told Progress → Cursor → Cursor
moved_of (accepted idle) c = onward_of c
moved_of (accepted passed) c = past_of c
moved_of (accepted (stalled n cause)) c = onward_of c
moved_of (refused n vs) c = c
