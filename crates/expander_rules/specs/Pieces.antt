-- A stream in pieces: a call for each, with the same nine words, from what the call before it carries.
use Rattle.std.specs.Prelude.{ℕ, List, [], ◌∷◌, ◌++◌, take}
use Rattle.machine.specs.Answers.{Told, accepted, refused}
use Rattle.expander_rules.specs.Call.{Expansion, expansion, expand_of}
use Rattle.expander_rules.specs.declared.Carried.{Carried}

-- the words of a piece, and the output that is lent to its call
pub record Piece : Type 0 where
  pub words : List ℕ
  pub output : List ℕ

-- "the joined stream"
unfoldable pub joined_words : List Piece → List ℕ
joined_words [] = []
joined_words (p ∷ ps) = p.words ++ joined_words ps

-- what a call has written, if it is accepted, before what those after it write
abbrev pub written_then : Told ℕ → List ℕ → Told Expansion → Told Expansion
written_then (refused number values) out later = refused number values
written_then (accepted n) out (refused number values) = refused number values
written_then (accepted n) out (accepted e) = accepted (expansion (take n out ++ e.words) e.carried)

-- "Where every piece is accepted": the pieces' outputs joined, and what the last one carries; else the number of the first that is refused
unfoldable pub all_taken : List ℕ → Carried → List Piece → Told Expansion
all_taken m c [] = accepted (expansion [] c)
all_taken m c (p ∷ ps) =
    let first = expand_of m c p.words p.output in
    written_then first.answer first.output (all_taken m first.carried ps)
