-- The MOP stage: what a word and a stream of words give (document 01, "Expander"). A fold over the words, with the high mask as its
-- state.
use Rattle.std.specs.Prelude.{ℕ, ◌+◌, ◌*◌, Bool, false, cond, ◌&&◌, ◌||◌, List, [], ◌∷◌, ◌++◌, eqb}
use Rattle.bits.specs.Field.{field, flag}
use Rattle.expander_rules.specs.Templates.{template0, template1}

-- opcode is bits 24–31: MOP (01), MOP_CFG (03), REPLAY (04)
abbrev pub opcode : ℕ → ℕ
opcode word = field 24 8 word

abbrev pub is_mop : ℕ → Bool
is_mop word = eqb (opcode word) 1

abbrev pub is_mop_config : ℕ → Bool
is_mop_config word = eqb (opcode word) 3

abbrev pub is_replay : ℕ → Bool
is_replay word = eqb (opcode word) 4

-- MOP: template 23, count 16–22, low mask 0–15. The mask is high x 65,536 + low
abbrev pub of_template1 : ℕ → Bool
of_template1 word = flag 23 word

abbrev pub is_template1 : ℕ → Bool
is_template1 word = is_mop word && of_template1 word

abbrev pub mop_mask : ℕ → ℕ → ℕ
mop_mask high word = high * 65536 + field 0 16 word

unfoldable pub mop_words : List ℕ → ℕ → ℕ → List ℕ
mop_words m high word = cond (of_template1 word) (template1 m) (template0 m (mop_mask high word) (field 16 7 word))

-- whether one of the words is such a word
unfoldable pub any_word : (ℕ → Bool) → List ℕ → Bool
any_word test [] = false
any_word test (word ∷ l) = test word || any_word test l

abbrev pub any_template1 : List ℕ → Bool
any_template1 l = any_word is_template1 l

abbrev pub any_replay : List ℕ → Bool
any_replay l = any_word is_replay l

-- the words that come out, and the high mask after them
pub record Emission : Type 0 where
  pub words : List ℕ
  pub high : ℕ

abbrev pub emission : List ℕ → ℕ → Emission
emission l h = record { words = l; high = h }

-- one after the other
abbrev pub followed_by : Emission → Emission → Emission
followed_by a b = emission (a.words ++ b.words) b.high

-- one word
unfoldable pub emission_of : List ℕ → ℕ → ℕ → Emission
emission_of m high word =
    -- MOP gives the words of its template
    cond (is_mop word) (emission (mop_words m high word) high)
    -- MOP_CFG (bits 0–15) sets the high mask
    (cond (is_mop_config word) (emission [] (field 0 16 word))
    -- other words go through
    (emission (word ∷ []) high))

-- a stream: each word in turn; what comes out is not expanded again
unfoldable pub stream_of : List ℕ → ℕ → List ℕ → Emission
stream_of m high [] = emission [] high
stream_of m high (word ∷ l) = followed_by (emission_of m high word) (stream_of m (emission_of m high word).high l)
