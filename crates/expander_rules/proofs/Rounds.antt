-- Laws of rounds, of their lengths, and of the mask's bits.
use Prim.Native.Nat.{ℕ, zero, suc, ◌+◌, ◌*◌, ◌-◌, ◌/◌, ◌%◌, ◌^◌, ◌≤◌, ◌<◌}
use mathlib.Core.Bool.{Bool, true, false, ◌&&◌}
use mathlib.Core.List.{List, [], ◌∷◌, ◌++◌}
use mathlib.Core.Path.{◌≡◌, refl, ap, ◌∙◌}
use native.Mathlib.Nat.{suc-mul, pow-suc, div-div-eq-div-mul, div-eq_of_lt, lt_of_lt_of_le, pow-le-pow_right, mul-le-mul_right, le_antisymm}
use native.Mathlib.Numerals.{add-one}
use native.Mathlib.Omega.{arith}
use lib.Dec.{eqb, ltb, lit<}
use lib.ListN.{length, length-append}
use borrow.Author.Tests.{lt-ltb, le-ltb, ltb-false}
use Rattle.bits.specs.Field.{field, flag}
use Rattle.expander_rules.specs.Sizes.{mask_bits, part_most}
use Rattle.expander_rules.specs.Templates.{nth, rounds, words_if, group, mask_group, mask_bit, mask_round, last_word, inner_round, outer_round}
use Rattle.expander_rules.specs.Counts.{group_count, outer_count}
use Rattle.bits.proofs.Choices.{cond_both}

module _ (f : ℕ → List ℕ) where
  -- a turn of a loop over the rounds, and its end
  pub rounds_next : (i k : ℕ) → i < k → rounds f i (k - i) ≡ f i ++ rounds f (i + 1) (k - (i + 1))
  unfolding rounds
  rounds_next i k h =
      let e : k - i ≡ suc (k - (i + 1)) = omega arith in
      rw e

  pub rounds_end : (i k : ℕ) → k ≤ i → rounds f i (k - i) ≡ []
  unfolding rounds
  rounds_end i k h =
      let e : k - i ≡ 0 = omega arith in
      rw e

  pub rounds_none : (k : ℕ) → k ≡ 0 → rounds f 0 k ≡ []
  unfolding rounds
  rounds_none k h = rw h

  -- rounds of one length
  pub rounds_long : (n : ℕ) → ((i : ℕ) → length (f i) ≡ n) → (i k : ℕ) → length (rounds f i k) ≡ k * n
  unfolding rounds
  rounds_long n h i zero = omega arith
  rounds_long n h i (suc k) = omega (arith, length-append (f i) (rounds f (i + 1) k), h i, rounds_long n h (i + 1) k, suc-mul k n)

-- all the rounds hold this one
pub round_within : (o k n : ℕ) → o < k → o * n + n ≤ k * n
round_within o k n h = omega (arith, suc-mul o n, mul-le-mul_right n h)

-- after the last round
pub rounds_over : (o k n : ℕ) → o ≤ k → k ≤ o → o * n ≡ k * n
rounds_over o k n h g = ap (λ (x : ℕ). x * n) (le_antisymm h g)

-- template 1
pub outer_parts : (m : List ℕ) (o last : ℕ) → last ≡ last_word m o →
    outer_round m o ≡ (nth m 2 ∷ []) ++ (rounds (inner_round m last) 0 (nth m 1) ++ (nth m 3 ∷ nth m 4 ∷ []))
unfolding outer_round
outer_parts m o last e = rw e

-- an inner round that another follows, and the last one
module _ (m : List ℕ) (last j : ℕ) where
  pub inner_next : j + 1 < nth m 1 →
      rounds (inner_round m last) j (nth m 1 - j) ≡ (nth m 5 ∷ nth m 6 ∷ []) ++ rounds (inner_round m last) (j + 1) (nth m 1 - (j + 1))
  unfolding inner_round
  inner_next h = rounds_next (inner_round m last) j (nth m 1) (omega arith) ∙ simp (lt-ltb (j + 1) (nth m 1) h)

  pub inner_last : j + 1 ≡ nth m 1 → rounds (inner_round m last) j (nth m 1 - j) ≡ (nth m 5 ∷ last ∷ []) ++ []
  unfolding inner_round
  inner_last h =
      rounds_next (inner_round m last) j (nth m 1) (omega arith)
      ∙ simp (le-ltb (j + 1) (nth m 1) (omega arith), rounds_end (inner_round m last) (j + 1) (nth m 1) (omega arith))

pub inner_long : (m : List ℕ) (last k : ℕ) → length (rounds (inner_round m last) 0 k) ≡ 2 * k
unfolding inner_round
inner_long m last k = omega (arith, rounds_long (inner_round m last) 2 (λ i. refl) 0 k)

pub outer_long : (m : List ℕ) (o : ℕ) → length (outer_round m o) ≡ outer_count (nth m 1)
unfolding outer_round
outer_long m o =
    let r = rounds (inner_round m (last_word m o)) 0 (nth m 1) in
    omega (arith, length-append r (nth m 3 ∷ nth m 4 ∷ []), inner_long m (last_word m o) (nth m 1))

-- template 0
words_if_long : (bit : ℕ) (l : List ℕ) → bit < 2 → length (words_if (eqb bit 1) l) ≡ length l * bit
words_if_long zero l h = omega arith
words_if_long (suc zero) l h = omega arith
words_if_long (suc (suc n)) l h = absurd (omega arith)

pub group_long : (m : List ℕ) (first a b c last : ℕ) → length (group m first (a ∷ b ∷ c ∷ []) last) ≡ group_count m
unfolding group
group_long m first a b c last =
    let f = nth m 1 in
    let p = words_if (flag 1 f) (a ∷ b ∷ c ∷ []) in
    let q = words_if (flag 0 f) (last ∷ []) in
    omega (arith, length-append p q, words_if_long (field 1 1 f) (a ∷ b ∷ c ∷ []) (omega arith), words_if_long (field 0 1 f) (last ∷ []) (omega arith))

pub mask_group_long : (m : List ℕ) (set : Bool) → length (mask_group m set) ≡ group_count m
unfolding mask_group
mask_group_long m set = cond_both (λ (l : List ℕ). length l ≡ group_count m) set (group_long m _ _ _ _ _) (group_long m _ _ _ _ _)

-- at most 128 rounds of at most 5 words
pub groups_small : (word n : ℕ) → n ≤ 5 → (word / 65536 % 128 + 1) * n ≤ part_most
groups_small word n h =
    let k : word / 65536 % 128 + 1 ≤ 128 = omega arith in
    omega (arith, mul-le-mul_right n k)

-- the mask's bits from bit i on, in a loop that halves it
pub mask_next : (mask i : ℕ) → mask / 2 ^ i / 2 ≡ mask / 2 ^ (i + 1)
mask_next mask i = rw (add-one i, pow-suc 2 i) (div-div-eq-div-mul mask (2 ^ i) 2)

pub mask_bit_lem : (mask i : ℕ) → mask < 4294967296 → eqb (mask / 2 ^ i % 2) 1 ≡ mask_bit mask i
unfolding mask_bit
mask_bit_lem mask i h = go (ltb i mask_bits) refl
  where
    go : (t : Bool) → ltb i mask_bits ≡ t → eqb (mask / 2 ^ i % 2) 1 ≡ (ltb i mask_bits && flag i mask)
    go true e = rw e
    go false e =
        let p : 2 ^ mask_bits ≤ 2 ^ i = pow-le-pow_right {n = 2} (lit< tt) (ltb-false i mask_bits e) in
        rw (e, div-eq_of_lt (lt_of_lt_of_le h p))

pub mask_round_next : (m : List ℕ) (mask rest i k : ℕ) → mask < 4294967296 → rest ≡ mask / 2 ^ i → i < k
    → rounds (mask_round m mask) i (k - i) ≡ mask_group m (eqb (rest % 2) 1) ++ rounds (mask_round m mask) (i + 1) (k - (i + 1))
mask_round_next m mask rest i k h e t = rw (e, mask_bit_lem mask i h) (rounds_next (mask_round m mask) i k t)
