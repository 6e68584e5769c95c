-- How many words leave the MOP stage, and how many are written out. No count depends on the high mask or on what the slots hold. These
-- definitions serve internal contracts alone.
use Rattle.std.specs.Prelude.{ℕ, ◌+◌, ◌*◌, min, cond, Option, Some, None, List, [], ◌∷◌}
use Rattle.bits.specs.Field.{field}
use Rattle.expander_rules.specs.Templates.{nth}
use Rattle.expander_rules.specs.Stream.{is_mop, is_mop_config, is_replay, of_template1}
use Rattle.expander_rules.specs.Replay.{length_of, is_load, is_loading, is_shown, load_after}
use Rattle.expander_rules.specs.declared.Load.{Load}

-- a count that stops one past its limit
abbrev pub capped : ℕ → ℕ → ℕ
capped limit n = min n (limit + 1)

-- the words of a round of template 0, and of an outer round of template 1
abbrev pub group_count : List ℕ → ℕ
group_count m = 1 + 3 * field 1 1 (nth m 1) + field 0 1 (nth m 1)

abbrev pub outer_count : ℕ → ℕ
outer_count inner = 3 + 2 * inner

-- what leaves the MOP stage for a MOP, for any word, and for a stream
unfoldable pub mop_count : List ℕ → ℕ → ℕ
mop_count m word = cond (of_template1 word) (nth m 0 * outer_count (nth m 1)) ((field 16 7 word + 1) * group_count m)

unfoldable pub emission_count : List ℕ → ℕ → ℕ
emission_count m word = cond (is_mop word) (mop_count m word) (cond (is_mop_config word) 0 1)

unfoldable pub stream_count : List ℕ → List ℕ → ℕ
stream_count m [] = 0
stream_count m (word ∷ l) = emission_count m word + stream_count m l

-- how many words a load takes
abbrev pub words_left : Option Load → ℕ
words_left None = 0
words_left (Some load) = load.left

-- what is written out for a word that no load takes, for any word, and for words in a row
unfoldable pub obeyed_count : ℕ → ℕ
obeyed_count word = cond (is_replay word) (cond (is_load word) 0 (length_of word)) 1

unfoldable pub written_count : Option Load → ℕ → ℕ
written_count load word = cond (is_loading load) (cond (is_shown load) 1 0) (obeyed_count word)

unfoldable pub played_count : Option Load → List ℕ → ℕ
played_count load [] = 0
played_count load (word ∷ l) = written_count load word + played_count (load_after load word) l
