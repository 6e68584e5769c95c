-- What a function does that lets words pass the replay stage. These definitions serve internal contracts alone.
use Rattle.std.specs.Prelude.{ℕ, ◌+◌, ◌≤◌, List, ◌≡◌, length}
use Rattle.bits.specs.Overwrite.{Wrote}
use Rattle.expander_rules.specs.Replay.{Played, buffer, play_words}
use Rattle.expander_replay.specs.declared.pass.Passed.{Passed}

-- the words of l pass the slots s with p's load
abbrev pub passed_of : List ℕ → Passed → List ℕ → Played
passed_of s p l = play_words (buffer s p.load) l

-- what is written out fits into `out` from p's place on
pub record Passable (s : List ℕ) (p : Passed) (l out : List ℕ) : Type 0 where
  pub room : p.at + length (passed_of s p l).words ≤ length out

-- it stands there; slots and output are then t and n, place and load r's
pub record Passes (s : List ℕ) (p : Passed) (l out t n : List ℕ) (r : Passed) : Type 0 where
  pub wrote : Wrote out p.at (passed_of s p l).words n r.at
  pub after : buffer t r.load ≡ (passed_of s p l).buffer
