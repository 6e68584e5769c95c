-- Laws of what leaves the MOP stage for a word and for a stream.
use Prim.Native.Nat.{ℕ, ◌+◌, ◌*◌, ◌/◌, ◌%◌, ◌≤◌, ◌<◌}
use mathlib.Core.Bool.{Bool, true, false, cond, ◌&&◌}
use mathlib.Core.List.{List, [], ◌∷◌, ◌++◌, append_assoc}
use mathlib.Core.Path.{◌≡◌, refl, sym, ap}
use native.Mathlib.Nat.{div-one}
use native.Mathlib.Omega.{arith}
use lib.ListN.{length, get_or, drop, length-append, drop_of_length-le}
use borrow.Author.Tests.{eq-eqb, ne_eqb}
use Rattle.bits.specs.Field.{field}
use Rattle.bits.proofs.Choices.{cond_both}
use Rattle.expander_rules.specs.Templates.{nth, mask_bit, mask_round, outer_round, template0, template1}
use Rattle.expander_rules.specs.Stream.{opcode, is_mop, is_mop_config, of_template1, is_template1, mop_mask, mop_words, Emission, emission, followed_by, emission_of, stream_of}
use Rattle.expander_rules.specs.Counts.{group_count, outer_count, mop_count, emission_count, stream_count}
use Rattle.expander_rules.proofs.Rounds.{rounds_long, outer_long, mask_group_long}
use Rattle.expander_rules.proofs.Words.{words_next}

-- a stream in two parts
pub stream_cut : (m : List ℕ) (high : ℕ) (a b : List ℕ) → stream_of m high (a ++ b) ≡ followed_by (stream_of m high a) (stream_of m (stream_of m high a).high b)
unfolding stream_of
stream_cut m high [] b = refl
stream_cut m high (word ∷ a) b =
    let w = emission_of m high word in
    let first = stream_of m w.high a in
    let second = stream_of m first.high b in
    rw (stream_cut m w.high a b) (ap (λ (l : List ℕ). emission l second.high) (sym (append_assoc w.words first.words second.words)))

-- the kinds of words, by the tests that the code makes
module _ (m : List ℕ) (high word : ℕ) where
  pub mop_template_1 : word / 8388608 % 2 ≡ 1 → mop_words m high word ≡ template1 m
  unfolding mop_words
  mop_template_1 h = simp (eq-eqb (word / 8388608 % 2) 1 h)

  pub mop_template_0 : (word / 8388608 % 2 ≡ 1 → ⊥) → mop_words m high word ≡ template0 m (high * 65536 + word % 65536) (word / 65536 % 128)
  unfolding mop_words
  mop_template_0 h = simp (ne_eqb (word / 8388608 % 2) 1 h, div-one word)

  pub word_mop : opcode word ≡ 1 → emission_of m high word ≡ emission (mop_words m high word) high
  unfolding emission_of
  word_mop h = simp (eq-eqb (opcode word) 1 h)

  pub word_config : opcode word ≡ 3 → emission_of m high word ≡ emission [] (word % 65536)
  unfolding emission_of
  word_config h = rw (h, div-one word)

  pub word_through : (opcode word ≡ 1 → ⊥) → (opcode word ≡ 3 → ⊥) → emission_of m high word ≡ emission (word ∷ []) high
  unfolding emission_of
  word_through h k = simp (ne_eqb (opcode word) 1 h, ne_eqb (opcode word) 3 k)

  -- only MOP_CFG changes the high mask
  pub mask_kept : (opcode word ≡ 3 → ⊥) → high ≡ (emission_of m high word).high
  unfolding emission_of
  mask_kept h =
      rw (ne_eqb (opcode word) 3 h)
      (cond_both (λ (e : Emission). high ≡ e.high) (is_mop word) {x = emission (mop_words m high word) high} {y = emission (word ∷ []) high} refl refl)

  -- the count is the length, whatever the mask
  pub mop_long : length (mop_words m high word) ≡ mop_count m word
  unfolding mop_words mop_count
  mop_long = go (of_template1 word)
    where
      go : (t : Bool) → length (cond t (template1 m) (template0 m (mop_mask high word) (field 16 7 word))) ≡
          cond t (nth m 0 * outer_count (nth m 1)) ((field 16 7 word + 1) * group_count m)
      go true = rounds_long (outer_round m) (outer_count (nth m 1)) (outer_long m) 0 (nth m 0)
      go false = rounds_long (mask_round m (mop_mask high word)) (group_count m) (λ i. mask_group_long m (mask_bit (mop_mask high word) i)) 0 (field 16 7 word + 1)

  word_long : length (emission_of m high word).words ≡ emission_count m word
  unfolding emission_of emission_count
  word_long = go (is_mop word) (is_mop_config word)
    where
      go : (s t : Bool) → length (cond s (emission (mop_words m high word) high) (cond t (emission [] (field 0 16 word)) (emission (word ∷ []) high))).words ≡
          cond s (mop_count m word) (cond t 0 1)
      go true t = mop_long
      go false true = refl
      go false false = refl

pub stream_long : (m : List ℕ) (high : ℕ) (l : List ℕ) → length (stream_of m high l).words ≡ stream_count m l
unfolding stream_of stream_count
stream_long m high [] = refl
stream_long m high (word ∷ l) =
    let w = emission_of m high word in
    omega (arith, length-append w.words (stream_of m w.high l).words, word_long m high word, stream_long m w.high l)

-- a MOP is of template 1 by bit 23
pub template_here : (over : Bool) (word : ℕ) → opcode word ≡ 1 → (over && is_template1 word) ≡ false → (over && of_template1 word) ≡ false
template_here over word h p = rw h at p

-- a turn of a loop over the stream, and its end
module _ (m l : List ℕ) (i : ℕ) where
  module _ (h : i < length l) where
    pub stream_next : (high : ℕ) →
        (let given = emission_of m high (get_or l i 0) in stream_of m high (drop i l) ≡ followed_by given (stream_of m given.high (drop (i + 1) l)))
    unfolding stream_of
    stream_next high = rw (words_next l i h)

    pub count_next : stream_count m (drop i l) ≡ emission_count m (get_or l i 0) + stream_count m (drop (i + 1) l)
    unfolding stream_count
    count_next = rw (words_next l i h)

  module _ (h : length l ≤ i) where
    pub stream_end : (high : ℕ) → stream_of m high (drop i l) ≡ emission [] high
    unfolding stream_of
    stream_end high = rw (drop_of_length-le l h)

    pub count_end : stream_count m (drop i l) ≡ 0
    unfolding stream_count
    count_end = rw (drop_of_length-le l h)
