-- What holds of the expander as a whole.
use Rattle.std.specs.Prelude.{ℕ, ◌≤◌, ◌<◌, Bool, true, false, not, None, List, [], ◌∷◌, ◌++◌, ◌≡◌, length, get_or}
use Rattle.bits.specs.Overwrite.{over}
use Rattle.machine.specs.Answers.{Told, accepted, refused, provided}
use Rattle.machine.specs.Sizes.{stream_most}
use Rattle.expander_rules.specs.Sizes.{slot_count, needed_most}
use Rattle.expander_rules.specs.Templates.{words_if}
use Rattle.expander_rules.specs.Stream.{is_replay, any_replay, emission, stream_of}
use Rattle.expander_rules.specs.Replay.{start_of, length_of, runs_while_loading, is_load, taking, is_loading, Buffer, buffer, played, play_words}
use Rattle.expander_rules.specs.State.{carry, fresh_carried, load_formed}
use Rattle.expander_rules.specs.Call.{Expanding, expanding, Expansion, expansion, expansion_of, right_lengths, bad_rounds, enough_room, if_accepted, done_with, expand_of, close_of}
use Rattle.expander_rules.specs.Pieces.{Piece, joined_words, all_taken}
use Rattle.expander_rules.specs.declared.Carried.{Carried}

-- ---- the replay stage

-- a load of n words and a play of as many from the same slot give them back, for every start and every n from 1 to 32, whatever
-- the words are; while they are loaded they are written out if bit 1 says so
abbrev pub LoadsPlayBack : Type 0
LoadsPlayBack =
    (b : Buffer) (load play : ℕ) (words : List ℕ) →
    length b.slots ≡ slot_count → is_loading b.load ≡ false →
    1 ≤ length words → length words ≤ slot_count →
    is_replay load ≡ true → is_load load ≡ true → length_of load ≡ length words →
    is_replay play ≡ true → is_load play ≡ false → length_of play ≡ length words → start_of play ≡ start_of load →
    (play_words b (load ∷ (words ++ (play ∷ [])))).words ≡ words_if (runs_while_loading load) words ++ words

-- as many slots afterwards as before
abbrev pub SlotsKept : Type 0
SlotsKept = (b : Buffer) (words : List ℕ) → length (play_words b words).buffer.slots ≡ length b.slots

-- words without a REPLAY are written out as they are, and the buffer stays as it is, where no load is on
abbrev pub PlainWords : Type 0
PlainWords = (b : Buffer) (words : List ℕ) → is_loading b.load ≡ false → any_replay words ≡ false → play_words b words ≡ played words b

-- ---- pieces

-- "cut between any two words": a stream gives what its first part gives and then what the second does, which goes on from what the
-- first one carries
abbrev pub CutAnywhere : Type 0
CutAnywhere =
    (m : List ℕ) (c : Carried) (first second : List ℕ) →
    (let before = expansion_of m c first in
    let after = expansion_of m before.carried second in
    expansion_of m c (first ++ second) ≡ expansion (before.words ++ after.words) after.carried)

-- "Where every piece is accepted, the nine words don't change between pieces, and the joined stream and output each stay within 65,536
-- words, one call with room enough, from what the first piece took, accepts the joined stream, writes the pieces' outputs joined and
-- carries the same"
abbrev pub JoinedPieces : Type 0
JoinedPieces =
    (m : List ℕ) (c : Carried) (p : Piece) (ps : List Piece) (e : Expansion) (out : List ℕ) → all_taken m c (p ∷ ps) ≡ accepted e →
    length (joined_words (p ∷ ps)) ≤ stream_most → length e.words ≤ needed_most → length e.words ≤ length out →
    expand_of m c (joined_words (p ∷ ps)) out ≡ expanding (accepted (length e.words)) e.carried (over out 0 e.words)

-- "A refused piece leaves what is carried as it was before it", and the output; so does a refused close
pub record RefusedPieces : Type 0 where
  pub piece : (m : List ℕ) (c : Carried) (l out : List ℕ) (number : ℕ) (values : List ℕ) →
      (expand_of m c l out).answer ≡ refused number values → expand_of m c l out ≡ expanding (refused number values) c out
  pub close : (c : Carried) (number : ℕ) (values : List ℕ) → (close_of c).answer ≡ refused number values → (close_of c).carried ≡ c

-- what a fresh expander, an accepted piece or an accepted close carries is never refused by 10, so that a piece or a close may follow; a
-- close then ends the load, writes nothing, and leaves mask and slots
pub record CarriesFormed : Type 0 where
  pub fresh : load_formed fresh_carried.load ≡ true
  pub piece : (m : List ℕ) (c : Carried) (l out : List ℕ) (n : ℕ) → (expand_of m c l out).answer ≡ accepted n → load_formed (expand_of m c l out).carried.load ≡ true
  pub close : (c : Carried) (n : ℕ) → (close_of c).answer ≡ accepted n → load_formed (close_of c).carried.load ≡ true
  pub closes : (c : Carried) → load_formed c.load ≡ true → close_of c ≡ expanding (accepted 0) (carry c.high_mask c.slots None) []

-- a carried load with no words to come takes nothing: a call answers, writes and leaves mask and slots as if there were no load
pub record SameButLoad (a b : Expanding) : Type 0 where
  pub answer : a.answer ≡ b.answer
  pub output : a.output ≡ b.output
  pub mask : a.carried.high_mask ≡ b.carried.high_mask
  pub slots : a.carried.slots ≡ b.carried.slots

abbrev pub EmptyLoads : Type 0
EmptyLoads =
    (m : List ℕ) (high : ℕ) (s : List ℕ) (next : ℕ) (shown : Bool) (l out : List ℕ) → next < slot_count →
    SameButLoad (expand_of m (carry high s (taking next 0 shown)) l out) (expand_of m (carry high s None) l out)

-- ---- a call

-- document 01's worked examples at the MOP stage, for all of the nine words that they leave free
pub record ExpanderExamples : Type 0 where
  -- 0x01020002, high mask 0, m1 = 1: m3 m2 m7 m8 m3 m2
  pub m10 : (m0 m2 m3 m4 m5 m6 m7 m8 : ℕ) →
      stream_of (m0 ∷ 1 ∷ m2 ∷ m3 ∷ m4 ∷ m5 ∷ m6 ∷ m7 ∷ m8 ∷ []) 0 (0x01020002 ∷ []) ≡
      emission (m3 ∷ m2 ∷ m7 ∷ m8 ∷ m3 ∷ m2 ∷ []) 0
  -- template 1, 2 by 2: m2 m5 m6 m5 m8 m3 m4 m2 m5 m6 m5 m7 m3 m4, whatever the masks
  pub m11 : (m2 m3 m4 m5 m6 m7 m8 high : ℕ) →
      stream_of (2 ∷ 2 ∷ m2 ∷ m3 ∷ m4 ∷ m5 ∷ m6 ∷ m7 ∷ m8 ∷ []) high (0x01800000 ∷ []) ≡
      emission (m2 ∷ m5 ∷ m6 ∷ m5 ∷ m8 ∷ m3 ∷ m4 ∷ m2 ∷ m5 ∷ m6 ∷ m5 ∷ m7 ∷ m3 ∷ m4 ∷ []) high

-- the words of an accepted call are the replay stage of what leaves the MOP stage; mask, slots and load are what the two stages leave
abbrev pub Stages : Type 0
Stages =
    (m : List ℕ) (c : Carried) (l out : List ℕ) (n : ℕ) → (expand_of m c l out).answer ≡ accepted n →
    (let mops = stream_of m c.high_mask l in
    let replayed = play_words (buffer c.slots c.load) mops.words in
    expand_of m c l out ≡
    expanding (accepted (length replayed.words)) (carry mops.high replayed.buffer.slots replayed.buffer.load) (over out 0 replayed.words))

-- document 01's call, of the MOP stage alone: 4; 10 as K2 has it; 7 for a template 1 MOP in the stream with m0 or m1 over 127; 8
abbrev pub mop_expansion : List ℕ → Carried → List ℕ → Expansion
mop_expansion m c l = let mops = stream_of m c.high_mask l in expansion mops.words (carry mops.high c.slots c.load)

unfoldable pub mop_check : List ℕ → Carried → List ℕ → List ℕ → Told (Unit {0})
mop_check m c l out =
    provided (right_lengths m l) 4
    (provided (load_formed c.load) 10
    (provided (not (bad_rounds m l)) 7
    (provided (enough_room out (length (mop_expansion m c l).words)) 8 (accepted tt))))

unfoldable pub mop_call_of : List ℕ → Carried → List ℕ → List ℕ → Expanding
mop_call_of m c l out = if_accepted (mop_check m c l out) c out (done_with (mop_expansion m c l) out)

-- where no load is on, a stream from which no REPLAY leaves the MOP stage is expanded as document 01 says, and slots and load stay as
-- they are
abbrev pub PlainStreams : Type 0
PlainStreams =
    (m : List ℕ) (c : Carried) (l out : List ℕ) → is_loading c.load ≡ false → any_replay (stream_of m c.high_mask l).words ≡ false →
    expand_of m c l out ≡ mop_call_of m c l out

-- as many slots are handed back as came: 32 stay 32
abbrev pub SlotsHandedBack : Type 0
SlotsHandedBack = (m : List ℕ) (c : Carried) (l out : List ℕ) → length (expand_of m c l out).carried.slots ≡ length c.slots

-- a fresh expander
pub record FreshExpander : Type 0 where
  pub mask : fresh_carried.high_mask ≡ 0
  pub count : length fresh_carried.slots ≡ 32
  pub each : (i : ℕ) → i < 32 → get_or fresh_carried.slots i 0 ≡ 0x02000000
  pub load : fresh_carried.load ≡ None
