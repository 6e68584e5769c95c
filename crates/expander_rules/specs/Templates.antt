-- What the two templates give (document 01, "Expander"). m is the nine words m0 to m8.
use Rattle.std.specs.Prelude.{ℕ, zero, suc, ◌+◌, Bool, cond, ◌&&◌, List, [], ◌∷◌, ◌++◌, ltb, get_or}
use Rattle.bits.specs.Field.{flag}
use Rattle.expander_rules.specs.Sizes.{mask_bits}

-- word i of the nine
abbrev pub nth : List ℕ → ℕ → ℕ
nth m i = get_or m i 0

-- k rounds, of which the first has the number i
unfoldable pub rounds : (ℕ → List ℕ) → ℕ → ℕ → List ℕ
rounds round i zero = []
rounds round i (suc k) = round i ++ rounds round (i + 1) k

-- the words, if the test holds
abbrev pub words_if : Bool → List ℕ → List ℕ
words_if test words = cond test words []

-- first, then more if bit 1 of m1, then last if bit 0 of m1
unfoldable pub group : List ℕ → ℕ → List ℕ → ℕ → List ℕ
group m first more last = first ∷ (words_if (flag 1 (nth m 1)) more ++ words_if (flag 0 (nth m 1)) (last ∷ []))

-- a set mask bit gives m7, then m7 three times more if bit 1, then m8 if bit 0;
-- a clear one m3, then m4 m5 m6 if bit 1, then m2 if bit 0
unfoldable pub mask_group : List ℕ → Bool → List ℕ
mask_group m set =
    cond set (group m (nth m 7) (nth m 7 ∷ nth m 7 ∷ nth m 7 ∷ []) (nth m 8))
    (group m (nth m 3) (nth m 4 ∷ nth m 5 ∷ nth m 6 ∷ []) (nth m 2))

-- bit i of the mask; clear where i is above 31
unfoldable pub mask_bit : ℕ → ℕ → Bool
mask_bit mask i = ltb i mask_bits && flag i mask

abbrev pub mask_round : List ℕ → ℕ → ℕ → List ℕ
mask_round m mask i = mask_group m (mask_bit mask i)

-- template 0: i from 0 to count
abbrev pub template0 : List ℕ → ℕ → ℕ → List ℕ
template0 m mask count = rounds (mask_round m mask) 0 (count + 1)

-- what follows m5 in the last inner round of outer round o: m8, or m7 in the last outer round
unfoldable pub last_word : List ℕ → ℕ → ℕ
last_word m o = cond (ltb (o + 1) (nth m 0)) (nth m 8) (nth m 7)

-- inner round j: m5 and then m6, but in the last one m5 and then `last`
unfoldable pub inner_round : List ℕ → ℕ → ℕ → List ℕ
inner_round m last j = nth m 5 ∷ cond (ltb (j + 1) (nth m 1)) (nth m 6) last ∷ []

-- outer round o: m2, the inner rounds, m3 m4
unfoldable pub outer_round : List ℕ → ℕ → List ℕ
outer_round m o = nth m 2 ∷ (rounds (inner_round m (last_word m o)) 0 (nth m 1) ++ (nth m 3 ∷ nth m 4 ∷ []))

-- template 1: m0 outer rounds
abbrev pub template1 : List ℕ → List ℕ
template1 m = rounds (outer_round m) 0 (nth m 0)
