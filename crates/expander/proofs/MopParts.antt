-- Laws of a MOP in parts: what a part is, by the tests that the code makes, and that it has room.
use Prim.Native.Nat.{ℕ, ◌+◌, ◌-◌, ◌≤◌}
use mathlib.Core.Bool.{Bool, true, false, cond, ◌&&◌}
use mathlib.Core.List.{List, [], ◌∷◌, append-nil}
use mathlib.Core.Path.{◌≡◌, refl, sym, ◌∙◌}
use native.Mathlib.Nat.{sub-zero}
use native.Mathlib.Omega.{arith}
use lib.Dec.{ltb}
use lib.ListN.{length, take}
use borrow.Author.Tests.{ltb-false}
use Rattle.bits.specs.Field.{field}
use Rattle.bits.specs.Overwrite.{Wrote}
use Rattle.bits.proofs.Choices.{neither, cond_both}
use Rattle.expander_rules.specs.Sizes.{nine_count, rounds_most, part_most}
use Rattle.expander_rules.specs.Templates.{nth, rounds, mask_bit, mask_round, last_word, inner_round, outer_round, template0, template1}
use Rattle.expander_rules.specs.Stream.{opcode, of_template1, is_template1, mop_mask, mop_words, stream_of}
use Rattle.expander_rules.specs.Call.{over_rounds}
use Rattle.expander_rules.specs.Counts.{group_count}
use Rattle.expander_rules.proofs.Rounds.{rounds_long, outer_long, mask_group_long, groups_small}
use Rattle.expander_rules.proofs.StreamLaws.{word_mop, template_here}
use Rattle.expander_rules.proofs.Words.{taken_back}
use Rattle.expander.specs.Parts.{part_count, round_words, part_words, mop_part}

module _ (m : List ℕ) (high word : ℕ) where
  -- template 0 of some nine words
  abbrev whole : List ℕ → List ℕ
  whole l = template0 l (mop_mask high word) (field 16 7 word)

  -- a MOP is its parts, as a loop has them that has yet to begin
  pub parts_all : (count : ℕ) → count ≡ part_count m word → mop_words m high word ≡ rounds (mop_part m high word) 0 (count - 0)
  unfolding mop_words mop_part rounds
  parts_all count e = rw (sub-zero count, e) (go (of_template1 word))
    where
      go : (t : Bool) → cond t (template1 m) (whole m) ≡ rounds (λ o. cond t (outer_round m o) (whole m)) 0 (cond t (nth m 0) 1)
      go true = refl
      go false = sym (append-nil (whole m))

  -- a stream of one MOP
  pub mop_alone : opcode word ≡ 1 → (stream_of m high (word ∷ [])).words ≡ mop_words m high word
  unfolding stream_of
  mop_alone h = rw (word_mop m high word h) (append-nil (mop_words m high word))

  -- a part is what its own nine words give
  part_mop : (o : ℕ) → mop_words (part_words m word o) high word ≡ mop_part m high word o
  unfolding mop_words part_words mop_part rounds outer_round last_word inner_round
  part_mop o = go (of_template1 word)
    where
      go : (t : Bool) → cond t (template1 (cond t (round_words m o) m)) (whole (cond t (round_words m o) m)) ≡ cond t (outer_round m o) (whole m)
      go true = append-nil (outer_round m o)
      go false = refl

  part_small : (o : ℕ) → opcode word ≡ 1 → (over_rounds m && is_template1 word) ≡ false → length (mop_part m high word o) ≤ part_most
  unfolding mop_part
  part_small o h few = go (of_template1 word) (template_here (over_rounds m) word h few)
    where
      over : (b : Bool) → (b && true) ≡ false → b ≡ false
      over true q = q
      over false q = refl

      go : (t : Bool) → (over_rounds m && t) ≡ false → length (cond t (outer_round m o) (whole m)) ≤ part_most
      go true q =
          let most = neither (ltb rounds_most (nth m 0)) (ltb rounds_most (nth m 1)) (over (over_rounds m) q) in
          omega (arith, outer_long m o, ltb-false rounds_most (nth m 1) most.1)
      go false q =
          let n : group_count m ≤ 5 = omega arith in
          let long = rounds_long (mask_round m (mop_mask high word)) (group_count m) (λ i. mask_group_long m (mask_bit (mop_mask high word) i)) 0 (field 16 7 word + 1) in
          omega (arith, long, groups_small word (group_count m) n)

pub part_words_long : (m : List ℕ) (word o : ℕ) → length m ≡ nine_count → length (part_words m word o) ≡ nine_count
unfolding part_words
part_words_long m word o h = cond_both (λ (l : List ℕ). length l ≡ nine_count) (of_template1 word) {x = round_words m o} {y = m} refl h

-- the stream of one MOP and its part's nine words: what it gives, and that it has room
pub record Alone (m : List ℕ) (high word o : ℕ) : Type 0 where
  pub given : (stream_of (part_words m word o) high (word ∷ [])).words ≡ mop_part m high word o
  pub small : length (mop_part m high word o) ≤ part_most

pub alone : (m : List ℕ) (high word o : ℕ) → opcode word ≡ 1 → (over_rounds m && is_template1 word) ≡ false → Alone m high word o
alone m high word o h few = record { given = mop_alone (part_words m word o) high word h ∙ part_mop m high word o; small = part_small m high word o h few }

-- what was written at a room's start
pub wrote_taken : {l vs m : List ℕ} {n : ℕ} → Wrote l 0 vs m n → take n m ≡ vs
wrote_taken {l} {vs} {m} {n} w = rw w.list (taken_back l vs n (omega (arith, w.placed)))
