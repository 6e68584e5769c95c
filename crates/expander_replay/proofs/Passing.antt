-- Laws of words that pass part by part.
use Prim.Native.Nat.{ℕ, ◌+◌, ◌≤◌}
use mathlib.Core.Bool.{false}
use mathlib.Core.List.{List, [], ◌∷◌, ◌++◌, append-nil}
use mathlib.Core.Path.{◌≡◌, refl, sym, ap, ◌∙◌}
use lib.ListN.{length}
use Rattle.bits.specs.Overwrite.{Wrote}
use Rattle.expander_rules.specs.Stream.{any_replay}
use Rattle.expander_rules.specs.Replay.{is_loading, load_after, Buffer, buffer, written, slots_after, Played, played, played_then, play_word, play_words}
use Rattle.expander_rules.proofs.ReplayLaws.{play_append, plain_words}
use Rattle.expander_templates.proofs.Writing.{Left, left_start, left_room, left_next, left_done, wrote_none}
use Rattle.expander_replay.specs.Passing.{passed_of, Passable, Passes}
use Rattle.expander_replay.specs.declared.pass.Passed.{Passed}

-- l passes the slots s₀ from p₀ on: slots, output, and place and load are now s, n and p, and `rest` is still to pass
pub record Passing (s₀ : List ℕ) (p₀ : Passed) (l out s n : List ℕ) (p : Passed) (rest : List ℕ) : Type 0 where
  pub writing : Left out p₀.at (passed_of s₀ p₀ l).words n p.at (passed_of s p rest).words
  pub buffers : (passed_of s p rest).buffer ≡ (passed_of s₀ p₀ l).buffer

pub passing_start : {s : List ℕ} {p : Passed} {l out : List ℕ} → Passable s p l out → Passing s p l out s out p l
passing_start {s} {p} {l} {out} f = record { writing = left_start out p.at (passed_of s p l).words f.room; buffers = refl }

module _ {s₀ l out s n rest : List ℕ} {p₀ p : Passed} (u : Passing s₀ p₀ l out s n p rest) where
  -- the rest fits, and where it has passed, all has
  pub passing_rest : Passable s p rest n
  passing_rest = record { room = u.writing.rest_fits }

  pub passing_done : rest ≡ [] → Passes s₀ p₀ l out s n p
  unfolding play_words
  passing_done e =
      let none : passed_of s p rest ≡ played [] (buffer s p.load) = rw e in
      record {
        wrote = left_done u.writing (ap (λ (x : Played). x.words) none);
        after = sym (ap (λ (x : Played). x.buffer) none) ∙ u.buffers;
      }

  module _ (part more : List ℕ) (e : rest ≡ part ++ more) where
    abbrev first : Played
    first = passed_of s p part

    parts : passed_of s p rest ≡ played_then first (play_words first.buffer more)
    parts = ap (passed_of s p) e ∙ play_append (buffer s p.load) part more

    -- the next part fits
    pub passing_part : Passable s p part n
    passing_part = record { room = left_room u.writing first.words (play_words first.buffer more).words (ap (λ (x : Played). x.words) parts) }

    -- the next part has passed
    pub passing_next : {t n' : List ℕ} {r : Passed} → Passes s p part n t n' r → Passing s₀ p₀ l out t n' r more
    passing_next q =
        let here = rw (← q.after) at parts in
        record {
          writing = left_next u.writing (ap (λ (x : Played). x.words) here) q.wrote;
          buffers = sym (ap (λ (x : Played). x.buffer) here) ∙ u.buffers;
        }

pub passing_last : {s₀ l out s n rest t n' : List ℕ} {p₀ p r : Passed} → Passing s₀ p₀ l out s n p rest → Passes s p rest n t n' r → Passes s₀ p₀ l out t n' r
passing_last {rest = rest} u q = passing_done (passing_next u rest [] (sym (append-nil rest)) q) refl

-- no word
pub passes_none : (s : List ℕ) (p : Passed) (out : List ℕ) → Passes s p [] out s out p
unfolding play_words
passes_none s p out = record { wrote = wrote_none out p.at; after = refl }

-- one word
module _ (s : List ℕ) (p : Passed) (word : ℕ) where
  abbrev b : Buffer
  b = buffer s p.load

  one_word : passed_of s p (word ∷ []) ≡ played (written b word) (play_word b word).buffer
  unfolding play_words
  one_word = ap (λ (l : List ℕ). played l (play_word b word).buffer) (append-nil (written b word))

  pub one_fits : {out : List ℕ} → Passable s p (word ∷ []) out → p.at + length (written b word) ≤ length out
  one_fits f = rw one_word at f.room

  pub passes_one : {out t n : List ℕ} (r : Passed) → Wrote out p.at (written b word) n r.at → t ≡ slots_after b word →
      r.load ≡ load_after p.load word → Passes s p (word ∷ []) out t n r
  passes_one r w t l = record { wrote = rw one_word w; after = rw (one_word, t, l) }

-- words without a REPLAY, where no load is on
module _ (s : List ℕ) (p : Passed) (l : List ℕ) (off : is_loading p.load ≡ false) (none : any_replay l ≡ false) where
  plain : passed_of s p l ≡ played l (buffer s p.load)
  plain = plain_words (buffer s p.load) l off none

  pub plain_fits : {out : List ℕ} → Passable s p l out → p.at + length l ≤ length out
  plain_fits f = rw plain at f.room

  pub passes_plain : {out n : List ℕ} (r : Passed) → Wrote out p.at l n r.at → r.load ≡ p.load → Passes s p l out s n r
  passes_plain r w q = record { wrote = rw plain w; after = rw (plain, q) }
