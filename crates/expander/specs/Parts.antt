-- A MOP in parts. These definitions serve internal contracts alone.
use Rattle.std.specs.Prelude.{ℕ, false, cond, ◌&&◌, List, [], ◌∷◌, ◌≡◌}
use Rattle.bits.specs.Field.{field}
use Rattle.expander_rules.specs.Templates.{nth, last_word, outer_round, template0}
use Rattle.expander_rules.specs.Stream.{of_template1, is_template1, mop_mask}
use Rattle.expander_rules.specs.Call.{over_rounds}

-- all of template 0 is one part, and an outer round of template 1
abbrev pub part_count : List ℕ → ℕ → ℕ
part_count m word = cond (of_template1 word) (nth m 0) 1

-- the nine words of which template 1 makes outer round o alone, and those of which a MOP makes its part o
abbrev pub round_words : List ℕ → ℕ → List ℕ
round_words m o = 1 ∷ nth m 1 ∷ nth m 2 ∷ nth m 3 ∷ nth m 4 ∷ nth m 5 ∷ nth m 6 ∷ last_word m o ∷ nth m 8 ∷ []

unfoldable pub part_words : List ℕ → ℕ → ℕ → List ℕ
part_words m word o = cond (of_template1 word) (round_words m o) m

unfoldable pub mop_part : List ℕ → ℕ → ℕ → ℕ → List ℕ
mop_part m high word o = cond (of_template1 word) (outer_round m o) (template0 m (mop_mask high word) (field 16 7 word))

-- the word is not refused by 7, so that a part of it has room
abbrev pub WordFits : List ℕ → ℕ → Type 0
WordFits m word = (over_rounds m && is_template1 word) ≡ false
