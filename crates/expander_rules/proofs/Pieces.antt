-- A stream in pieces is the stream.
use Prim.Native.Nat.{ℕ, ◌≤◌}
use mathlib.Core.List.{List, [], ◌∷◌, ◌++◌}
use Rattle.std.specs.Prelude.{Option}
use mathlib.Core.Path.{◌≡◌, refl, sym, ap, ◌∙◌}
use native.Mathlib.Omega.{arith}
use lib.Dec.{eqb, leb}
use lib.ListN.{length, take}
use borrow.Author.Tests.{eqb-true}
use Rattle.bits.proofs.Choices.{and_left}
use Rattle.machine.specs.Answers.{Told, accepted, refused}
use Rattle.machine.specs.Sizes.{stream_most}
use Rattle.machine.proofs.Checks.{refused_accepted}
use Rattle.expander_rules.specs.Sizes.{nine_count}
use Rattle.expander_rules.specs.Stream.{emission_of, stream_of}
use Rattle.expander_rules.specs.Replay.{buffer, play_words, loads_after}
use Rattle.expander_rules.specs.Call.{Expansion, expansion, expansion_of, fault_of, done_with, expand_of}
use Rattle.expander_rules.specs.Pieces.{Piece, joined_words, written_then, all_taken}
use Rattle.expander_rules.specs.Admitted.{Admitted}
use Rattle.expander_rules.specs.Promises.{CutAnywhere, JoinedPieces}
use Rattle.expander_rules.specs.declared.Carried.{Carried}
use Rattle.expander_rules.specs.declared.Load.{Load}
use Rattle.expander_rules.proofs.Words.{taken_back}
use Rattle.expander_rules.proofs.StreamLaws.{stream_cut}
use Rattle.expander_rules.proofs.ReplayLaws.{play_append, loads_append, play_load}
use Rattle.expander_rules.proofs.Faults.{sound_next}
use Rattle.expander_rules.proofs.Calls.{accepts, enough_room_lem}

pub cut : CutAnywhere
unfolding expansion_of
cut m c first second =
    let mops = stream_of m c.high_mask first in
    rw (stream_cut m c.high_mask first second, play_append (buffer c.slots c.load) mops.words (stream_of m mops.high second).words)

-- after a sound part the rest decides
fault_append : (m : List ℕ) (high : ℕ) (load : Option Load) (x y : List ℕ) → fault_of m high load x ≡ accepted tt →
    fault_of m high load (x ++ y) ≡ fault_of m (stream_of m high x).high (loads_after load (stream_of m high x).words) y
unfolding fault_of stream_of loads_after
fault_append m high load [] y sound = refl
fault_append m high load (word ∷ x) y sound =
    let w = emission_of m high word in
    let p = sound_next m high load word x sound in
    rw (loads_append load w.words (stream_of m w.high x).words, p.0, p.1.0) (fault_append m w.high (loads_after load w.words) x y p.1.1)

-- pieces that are all accepted: the joined stream is sound and gives what they give
record Together (m : List ℕ) (c : Carried) (l : List ℕ) (e : Expansion) : Type 0 where
  sound : fault_of m c.high_mask c.load l ≡ accepted tt
  given : expansion_of m c l ≡ e

no_piece : (m : List ℕ) (c : Carried) → Together m c [] (expansion [] c)
unfolding fault_of expansion_of stream_of play_words
no_piece m c = record { sound = refl; given = refl }

-- one more before them
one_more : (m : List ℕ) (c : Carried) (x out y : List ℕ) (n : ℕ) (e : Expansion) → (expand_of m c x out).answer ≡ accepted n →
    Together m (expand_of m c x out).carried y e → Together m c (x ++ y) (expansion (take n (expand_of m c x out).output ++ e.words) e.carried)
unfolding expansion_of
one_more m c x out y n e h rest =
    let a = accepts m c x out n h in
    let own = expansion_of m c x in
    let on = rw a.done at rest in
    rw (a.done, taken_back out own.words n a.count)
    (record {
      sound = fault_append m c.high_mask c.load x y a.sound ∙ rw (← play_load (buffer c.slots c.load) (stream_of m c.high_mask x).words) on.sound;
      given = cut m c x y ∙ ap (λ (r : Expansion). expansion (own.words ++ r.words) r.carried) on.given;
    })

-- what a call and those after it come to where all are accepted
record Accepted (a : Told ℕ) (out : List ℕ) (later : Told Expansion) (e : Expansion) : Type 0 where
  count : ℕ
  rest : Expansion
  first : a ≡ accepted count
  others : later ≡ accepted rest
  both : e ≡ expansion (take count out ++ rest.words) rest.carried

all_accepted : (a : Told ℕ) (out : List ℕ) (later : Told Expansion) (e : Expansion) → written_then a out later ≡ accepted e → Accepted a out later e
all_accepted (refused number values) out later e z = refused_accepted (sym z)
all_accepted (accepted n) out (refused number values) e z = refused_accepted (sym z)
all_accepted (accepted n) out (accepted rest) e z = record { count = n; rest = rest; first = refl; others = refl; both = cc }

together : (m : List ℕ) (c : Carried) (ps : List Piece) (e : Expansion) → all_taken m c ps ≡ accepted e → Together m c (joined_words ps) e
unfolding all_taken joined_words
together m c [] e h = let none : expansion [] c ≡ e = cc in rw (← none) (no_piece m c)
together m c (p ∷ ps) e h =
    let first = expand_of m c p.words p.output in
    let t = all_accepted first.answer first.output (all_taken m first.carried ps) e h in
    rw t.both (one_more m c p.words p.output (joined_words ps) t.count t.rest t.first (together m first.carried ps t.rest t.others))

-- the first piece's call tells that there are nine words and that the load is well formed
first_taken : (m : List ℕ) (c : Carried) (p : Piece) (ps : List Piece) (e : Expansion) → all_taken m c (p ∷ ps) ≡ accepted e →
    (l : List ℕ) → length l ≤ stream_most → (length m ≡ nine_count) × Admitted c l
unfolding all_taken
first_taken m c p ps e h l within =
    let first = expand_of m c p.words p.output in
    let t = all_accepted first.answer first.output (all_taken m first.carried ps) e h in
    let a = accepts m c p.words p.output t.count t.first in
    let nine = and_left (eqb (length m) nine_count) (leb (length p.words) stream_most) a.lengths in
    (eqb-true (length m) nine_count nine, record { stream = within; load = a.load })

pub joined_pieces : JoinedPieces
joined_pieces m c p ps e out h within small room =
    let t = together m c (p ∷ ps) e h in
    let first = first_taken m c p ps e h (joined_words (p ∷ ps)) within in
    enough_room_lem m first.0 first.1 out (sym t.sound) (rw t.given (omega (arith, small, room)))
    ∙ ap (λ (r : Expansion). done_with r out) t.given
