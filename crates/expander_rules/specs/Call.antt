-- A call of the expander, for a piece of a stream, and the close after the last piece: the answer in the documents' numbers, what is
-- carried, and the output afterwards.
use Rattle.std.specs.Prelude.{ℕ, Bool, not, ◌&&◌, ◌||◌, Option, None, Result, Ok, Err, List, [], ◌∷◌, eqb, leb, ltb, length}
use Rattle.bits.specs.Overwrite.{over}
use Rattle.machine.specs.Answers.{Told, accepted, refused, provided}
use Rattle.machine.specs.Sizes.{stream_most}
use Rattle.expander_rules.specs.Sizes.{nine_count, rounds_most, needed_most}
use Rattle.expander_rules.specs.Templates.{nth}
use Rattle.expander_rules.specs.Stream.{is_template1, any_template1, emission_of, stream_of}
use Rattle.expander_rules.specs.Replay.{buffer, play_words, loads_after, any_obeyed_badly}
use Rattle.expander_rules.specs.State.{carry, load_formed}
use Rattle.machine.specs.declared.refusal.Refusal.{Refusal}
use Rattle.expander_rules.specs.declared.Carried.{Carried}
use Rattle.expander_rules.specs.declared.Load.{Load}

-- how many words it says were written
abbrev pub answered : Result ℕ Refusal → ℕ
answered (Ok n) = n
answered (Err r) = 0

-- the answer, what is carried after the call, and the output
pub record Expanding : Type 0 where
  pub answer : Told ℕ
  pub carried : Carried
  pub output : List ℕ

abbrev pub expanding : Told ℕ → Carried → List ℕ → Expanding
expanding a c out = record { answer = a; carried = c; output = out }

-- the words that a call writes, and what is carried after it
pub record Expansion : Type 0 where
  pub words : List ℕ
  pub carried : Carried

abbrev pub expansion : List ℕ → Carried → Expansion
expansion l c = record { words = l; carried = c }

-- the replay stage of what leaves the MOP stage, from the load that is carried; a load goes on over the end of a piece
unfoldable pub expansion_of : List ℕ → Carried → List ℕ → Expansion
expansion_of m c l =
    let mops = stream_of m c.high_mask l in
    let replayed = play_words (buffer c.slots c.load) mops.words in
    expansion replayed.words (carry mops.high replayed.buffer.slots replayed.buffer.load)

-- refusal 4 is for another number of lent words than nine, or a stream over 65,536 words
abbrev pub right_lengths : List ℕ → List ℕ → Bool
right_lengths m l = eqb (length m) nine_count && leb (length l) stream_most

-- m0 or m1 over 127
abbrev pub over_rounds : List ℕ → Bool
over_rounds m = ltb rounds_most (nth m 0) || ltb rounds_most (nth m 1)

-- a template 1 MOP in the stream with m0 or m1 over 127
abbrev pub bad_rounds : List ℕ → List ℕ → Bool
bad_rounds m l = over_rounds m && any_template1 l

-- refusal 7 of a word, and refusal 13 of a REPLAY that leaves the MOP stage: "in one pass with 7, whichever word comes first"
unfoldable pub fault_of : List ℕ → ℕ → Option Load → List ℕ → Told (Unit {0})
fault_of m high load [] = accepted tt
fault_of m high load (word ∷ l) =
    let given = emission_of m high word in
    provided (not (over_rounds m && is_template1 word)) 7
    (provided (not (any_obeyed_badly load given.words)) 13
    (fault_of m given.high (loads_after load given.words) l))

-- refusal 8 is for an output shorter than needed, or over 65,536 words needed
abbrev pub enough_room : List ℕ → ℕ → Bool
enough_room out needed = leb needed (length out) && leb needed needed_most

-- the rest, unless a first check refuses
abbrev pub unless_refused : {A B : Type 0} → Told A → Told B → Told B
unless_refused (accepted x) rest = rest
unless_refused (refused number values) rest = refused number values

-- 4, 10, 7 and 13 together, 8
unfoldable pub expand_check : List ℕ → Carried → List ℕ → List ℕ → Told (Unit {0})
expand_check m c l out =
    provided (right_lengths m l) 4
    (provided (load_formed c.load) 10
    (unless_refused (fault_of m c.high_mask c.load l)
    (provided (enough_room out (length (expansion_of m c l).words)) 8 (accepted tt))))

-- a refused call writes nothing and hands back the old state
abbrev pub if_accepted : Told (Unit {0}) → Carried → List ℕ → Expanding → Expanding
if_accepted (accepted x) c out done = done
if_accepted (refused number values) c out done = expanding (refused number values) c out

-- an accepted call fills the output from its start and leaves its rest
abbrev pub done_with : Expansion → List ℕ → Expanding
done_with e out = expanding (accepted (length e.words)) e.carried (over out 0 e.words)

unfoldable pub expand_of : List ℕ → Carried → List ℕ → List ℕ → Expanding
expand_of m c l out = if_accepted (expand_check m c l out) c out (done_with (expansion_of m c l) out)

-- "A close after the last piece does what the end of a stream did": it "ends the load with what came" (K1), and writes nothing
abbrev pub close_check : Carried → Told (Unit {0})
close_check c = provided (load_formed c.load) 10 (accepted tt)

abbrev pub closed : Carried → Expanding
closed c = expanding (accepted 0) (carry c.high_mask c.slots None) []

unfoldable pub close_of : Carried → Expanding
close_of c = if_accepted (close_check c) c [] (closed c)
