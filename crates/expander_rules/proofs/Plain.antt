-- Nine words none of which is a REPLAY: none leaves the MOP stage for a MOP.
use Prim.Native.Nat.{ℕ, zero, suc, ◌+◌}
use mathlib.Core.Bool.{Bool, true, false, cond}
use mathlib.Core.List.{List, [], ◌∷◌, ◌++◌}
use mathlib.Core.Path.{◌≡◌, refl}
use lib.Dec.{ltb}
use Rattle.bits.specs.Field.{field, flag}
use Rattle.bits.proofs.Choices.{neither, cond_both}
use Rattle.expander_rules.specs.Templates.{nth, rounds, words_if, group, mask_group, mask_bit, mask_round, last_word, inner_round, outer_round}
use Rattle.expander_rules.specs.Stream.{is_mop, is_mop_config, is_replay, of_template1, mop_mask, mop_words, any_word, any_replay, Emission, emission, emission_of, stream_of}
use Rattle.expander_rules.proofs.Words.{none_nil, none_cons, none_one, none_append}

none_if : (test : Bool) (l : List ℕ) → any_replay l ≡ false → any_replay (words_if test l) ≡ false
none_if true l p = p
none_if false l p = none_nil is_replay

none_rounds : (f : ℕ → List ℕ) → ((i : ℕ) → any_replay (f i) ≡ false) → (i k : ℕ) → any_replay (rounds f i k) ≡ false
unfolding rounds
none_rounds f p i zero = none_nil is_replay
none_rounds f p i (suc k) = none_append is_replay (f i) (rounds f (i + 1) k) (p i) (none_rounds f p (i + 1) k)

none_three : (a b c : ℕ) → is_replay a ≡ false → is_replay b ≡ false → is_replay c ≡ false → any_replay (a ∷ b ∷ c ∷ []) ≡ false
none_three a b c p q r = none_cons is_replay a (b ∷ c ∷ []) p (none_cons is_replay b (c ∷ []) q (none_one is_replay c r))

module _ (m : List ℕ) (h : any_replay m ≡ false) where
  each : (i : ℕ) → is_replay (nth m i) ≡ false
  unfolding any_word
  each i = go m h i
    where
      go : (l : List ℕ) → any_replay l ≡ false → (i : ℕ) → is_replay (nth l i) ≡ false
      go [] p i = refl
      go (word ∷ l) p zero = (neither (is_replay word) (any_replay l) p).0
      go (word ∷ l) p (suc i) = go l (neither (is_replay word) (any_replay l) p).1 i

  group_plain : (first a b c last : ℕ) → any_replay (group m (nth m first) (nth m a ∷ nth m b ∷ nth m c ∷ []) (nth m last)) ≡ false
  unfolding group
  group_plain first a b c last =
      let more = words_if (flag 1 (nth m 1)) (nth m a ∷ nth m b ∷ nth m c ∷ []) in
      let end = words_if (flag 0 (nth m 1)) (nth m last ∷ []) in
      none_cons is_replay (nth m first) (more ++ end) (each first)
      (none_append is_replay more end
      (none_if (flag 1 (nth m 1)) (nth m a ∷ nth m b ∷ nth m c ∷ []) (none_three (nth m a) (nth m b) (nth m c) (each a) (each b) (each c)))
      (none_if (flag 0 (nth m 1)) (nth m last ∷ []) (none_one is_replay (nth m last) (each last))))

  mask_plain : (set : Bool) → any_replay (mask_group m set) ≡ false
  unfolding mask_group
  mask_plain set = cond_both (λ (l : List ℕ). any_replay l ≡ false) set (group_plain 7 7 7 7 8) (group_plain 3 4 5 6 2)

  last_plain : (o : ℕ) → is_replay (last_word m o) ≡ false
  unfolding last_word
  last_plain o = cond_both (λ (word : ℕ). is_replay word ≡ false) (ltb (o + 1) (nth m 0)) (each 8) (each 7)

  inner_plain : (last j : ℕ) → is_replay last ≡ false → any_replay (inner_round m last j) ≡ false
  unfolding inner_round
  inner_plain last j p =
      let word = cond (ltb (j + 1) (nth m 1)) (nth m 6) last in
      none_cons is_replay (nth m 5) (word ∷ []) (each 5)
      (none_one is_replay word (cond_both (λ (w : ℕ). is_replay w ≡ false) (ltb (j + 1) (nth m 1)) (each 6) p))

  outer_plain : (o : ℕ) → any_replay (outer_round m o) ≡ false
  unfolding outer_round
  outer_plain o =
      let inner = rounds (inner_round m (last_word m o)) 0 (nth m 1) in
      none_cons is_replay (nth m 2) (inner ++ (nth m 3 ∷ nth m 4 ∷ [])) (each 2)
      (none_append is_replay inner (nth m 3 ∷ nth m 4 ∷ [])
      (none_rounds (inner_round m (last_word m o)) (λ j. inner_plain (last_word m o) j (last_plain o)) 0 (nth m 1))
      (none_cons is_replay (nth m 3) (nth m 4 ∷ []) (each 3) (none_one is_replay (nth m 4) (each 4))))

  pub mop_plain : (high word : ℕ) → any_replay (mop_words m high word) ≡ false
  unfolding mop_words
  mop_plain high word =
      cond_both (λ (l : List ℕ). any_replay l ≡ false) (of_template1 word)
      (none_rounds (outer_round m) outer_plain 0 (nth m 0))
      (none_rounds (mask_round m (mop_mask high word)) (λ i. mask_plain (mask_bit (mop_mask high word) i)) 0 (field 16 7 word + 1))

  word_plain : (high word : ℕ) → is_replay word ≡ false → any_replay (emission_of m high word).words ≡ false
  unfolding emission_of
  word_plain high word p =
      cond_both (λ (e : Emission). any_replay e.words ≡ false) (is_mop word) (mop_plain high word)
      (cond_both (λ (e : Emission). any_replay e.words ≡ false) (is_mop_config word)
      {x = emission [] (field 0 16 word)} {y = emission (word ∷ []) high} (none_nil is_replay) (none_one is_replay word p))

  -- nor for a stream without one
  pub stream_plain : (high : ℕ) (l : List ℕ) → any_replay l ≡ false → any_replay (stream_of m high l).words ≡ false
  unfolding stream_of any_word
  stream_plain high [] p = refl
  stream_plain high (word ∷ l) p =
      let n = neither (is_replay word) (any_replay l) p in
      let e = emission_of m high word in
      none_append is_replay e.words (stream_of m e.high l).words (word_plain high word n.0) (stream_plain e.high l n.1)
