-- The replay stage (document 02, K1): what becomes of the words that leave the MOP stage. A fold over them, with the slots and the
-- load as its state.
use Rattle.std.specs.Prelude.{ℕ, zero, suc, ◌+◌, ◌-◌, ◌%◌, Bool, false, cond, not, ◌&&◌, ◌||◌, Option, Some, None, List, [], ◌∷◌, ◌++◌, eqb, ltb, get_or, set}
use Rattle.bits.specs.Field.{field, flag}
use Rattle.expander_rules.specs.Sizes.{slot_count}
use Rattle.expander_rules.specs.Templates.{words_if}
use Rattle.expander_rules.specs.Stream.{is_replay}
use Rattle.expander_rules.specs.declared.Load.{Load}

-- REPLAY (opcode 04): start 14–18, length 4–9, run-while-loading 1, load 0
abbrev pub start_of : ℕ → ℕ
start_of word = field 14 5 word

abbrev pub length_of : ℕ → ℕ
length_of word = field 4 6 word

abbrev pub runs_while_loading : ℕ → Bool
runs_while_loading word = flag 1 word

abbrev pub is_load : ℕ → Bool
is_load word = flag 0 word

-- a load that is on: the slot that takes the next word, the words to come, and whether they are written out too
abbrev pub taking : ℕ → ℕ → Bool → Option Load
taking next left shown = Some (record { next = next; left = left; shown = shown })

-- whether a load takes the next word: one that has words to come
abbrev pub is_loading : Option Load → Bool
is_loading None = false
is_loading (Some load) = ltb 0 load.left

-- the slot that takes the next word
abbrev pub next_slot : Option Load → ℕ
next_slot None = 0
next_slot (Some load) = load.next % slot_count

-- whether what is taken is written out too
abbrev pub is_shown : Option Load → Bool
is_shown None = false
is_shown (Some load) = load.shown

-- "start onward, wrapping after slot 31"; with its last word a load is over
abbrev pub one_taken : Option Load → Option Load
one_taken None = None
one_taken (Some load) = cond (eqb load.left 1) None (taking ((load.next + 1) % slot_count) (load.left - 1) load.shown)

-- the load that a REPLAY with bit 0 begins
abbrev pub load_by : ℕ → Option Load
load_by word = taking (start_of word) (length_of word) (runs_while_loading word)

-- what a word that no load takes makes of the load, and what any word does: "A REPLAY word met while loading is stored and not obeyed"
abbrev pub load_obeyed : Option Load → ℕ → Option Load
load_obeyed load word = cond (is_replay word && is_load word) (load_by word) load

unfoldable pub load_after : Option Load → ℕ → Option Load
load_after load word = cond (is_loading load) (one_taken load) (load_obeyed load word)

-- n slots, the first of which is slot i
unfoldable pub slots_from : List ℕ → ℕ → ℕ → List ℕ
slots_from slots i zero = []
slots_from slots i (suc n) = get_or slots i 0 ∷ slots_from slots ((i + 1) % slot_count) n

pub record Buffer : Type 0 where
  pub slots : List ℕ
  pub load : Option Load

abbrev pub buffer : List ℕ → Option Load → Buffer
buffer s load = record { slots = s; load = load }

-- what is written out for a word that no load takes: the slots of a REPLAY without load, nothing for one with it, any other word
unfoldable pub written_obeyed : List ℕ → ℕ → List ℕ
written_obeyed slots word = cond (is_replay word) (words_if (not (is_load word)) (slots_from slots (start_of word) (length_of word))) (word ∷ [])

-- what is written out for a word: one that is taken "if bit 1 is set"
unfoldable pub written : Buffer → ℕ → List ℕ
written b word = cond (is_loading b.load) (words_if (is_shown b.load) (word ∷ [])) (written_obeyed b.slots word)

-- what a word makes of the slots
unfoldable pub slots_after : Buffer → ℕ → List ℕ
slots_after b word = cond (is_loading b.load) (set b.slots (next_slot b.load) word) b.slots

-- the words written out, and the buffer after them
pub record Played : Type 0 where
  pub words : List ℕ
  pub buffer : Buffer

abbrev pub played : List ℕ → Buffer → Played
played l b = record { words = l; buffer = b }

-- one after the other
abbrev pub played_then : Played → Played → Played
played_then a b = played (a.words ++ b.words) b.buffer

abbrev pub play_word : Buffer → ℕ → Played
play_word b word = played (written b word) (buffer (slots_after b word) (load_after b.load word))

-- each word in turn; what comes out of a slot is not looked at again
unfoldable pub play_words : Buffer → List ℕ → Played
play_words b [] = played [] b
play_words b (word ∷ l) = played_then (play_word b word) (play_words (play_word b word).buffer l)

-- the load after all of them
unfoldable pub loads_after : Option Load → List ℕ → Option Load
loads_after load [] = load
loads_after load (word ∷ l) = loads_after (load_after load word) l

-- refusal 13: "length 0 or over 32 in a REPLAY that is obeyed", and whether one of the words is such
abbrev pub bad_length : ℕ → Bool
bad_length word = eqb (length_of word) 0 || ltb slot_count (length_of word)

unfoldable pub obeyed_badly : Option Load → ℕ → Bool
obeyed_badly load word = is_replay word && (not (is_loading load) && bad_length word)

unfoldable pub any_obeyed_badly : Option Load → List ℕ → Bool
any_obeyed_badly load [] = false
any_obeyed_badly load (word ∷ l) = obeyed_badly load word || any_obeyed_badly (load_after load word) l
