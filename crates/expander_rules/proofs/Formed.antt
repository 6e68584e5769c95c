-- What is carried is well formed: 10 is never of an expander's own making.
use Prim.Native.Nat.{ℕ, ◌+◌, ◌-◌, ◌%◌}
use mathlib.Core.Bool.{Bool, true, false, cond, not, ◌&&◌}
use mathlib.Core.List.{List, [], ◌∷◌}
use Rattle.std.specs.Prelude.{Option, Some, None}
use mathlib.Core.Path.{◌≡◌, refl, ap}
use native.Mathlib.Omega.{arith}
use lib.Dec.{eqb, leb, ltb}
use borrow.Author.Tests.{le-leb, lt-ltb, leb-true, ltb-false}
use Rattle.bits.proofs.Choices.{neither, and_right}
use Rattle.machine.specs.Answers.{accepted}
use Rattle.expander_rules.specs.Sizes.{slot_count}
use Rattle.expander_rules.specs.Stream.{is_replay, emission_of, stream_of}
use Rattle.expander_rules.specs.Replay.{is_load, start_of, length_of, taking, one_taken, load_by, load_obeyed, load_after, buffer, loads_after, bad_length, obeyed_badly, any_obeyed_badly}
use Rattle.expander_rules.specs.State.{load_formed}
use Rattle.expander_rules.specs.Call.{Expanding, fault_of, expansion_of, expand_of, close_check, closed, close_of}
use Rattle.expander_rules.specs.Promises.{CarriesFormed}
use Rattle.expander_rules.specs.declared.Carried.{Carried}
use Rattle.expander_rules.specs.declared.Load.{Load}
use Rattle.expander_rules.proofs.ReplayLaws.{bad_append, play_load}
use Rattle.expander_rules.proofs.Faults.{sound_next}
use Rattle.expander_rules.proofs.Calls.{accepts, passed_check, if_done, close_done}

-- a load that takes a word
taken_formed : (next left : ℕ) (shown : Bool) → load_formed (taking next left shown) ≡ true → load_formed (one_taken (taking next left shown)) ≡ true
taken_formed next left shown h = go (eqb left 1)
  where
    go : (last : Bool) → load_formed (cond last None (taking ((next + 1) % slot_count) (left - 1) shown)) ≡ true
    go true = refl
    go false =
        let few = leb-true left slot_count (and_right (ltb next slot_count) (leb left slot_count) h) in
        rw (lt-ltb ((next + 1) % slot_count) slot_count (omega arith), le-leb (left - 1) slot_count (omega arith))

-- a word that no load takes
obeyed_formed : (load : Option Load) (word : ℕ) → load_formed load ≡ true → (is_replay word && bad_length word) ≡ false → load_formed (load_obeyed load word) ≡ true
obeyed_formed load word formed fine = go (is_replay word) (is_load word) fine
  where
    go : (replay begins : Bool) → (replay && bad_length word) ≡ false → load_formed (cond (replay && begins) (load_by word) load) ≡ true
    go true true h =
        let few = ltb-false slot_count (length_of word) (neither (eqb (length_of word) 0) (ltb slot_count (length_of word)) h).1 in
        rw (lt-ltb (start_of word) slot_count (omega arith), le-leb (length_of word) slot_count few)
    go true false h = formed
    go false begins h = formed

word_formed : (load : Option Load) (word : ℕ) → load_formed load ≡ true → obeyed_badly load word ≡ false → load_formed (load_after load word) ≡ true
unfolding load_after obeyed_badly
word_formed None word formed fine = obeyed_formed None word formed fine
word_formed (Some load) word formed fine = go (ltb 0 load.left) fine
  where
    go : (on : Bool) → (is_replay word && (not on && bad_length word)) ≡ false →
        load_formed (cond on (one_taken (Some load)) (load_obeyed (Some load) word)) ≡ true
    go true h = taken_formed load.next load.left load.shown formed
    go false h = obeyed_formed (Some load) word formed h

words_formed : (load : Option Load) (l : List ℕ) → load_formed load ≡ true → any_obeyed_badly load l ≡ false → load_formed (loads_after load l) ≡ true
unfolding any_obeyed_badly loads_after
words_formed load [] formed fine = formed
words_formed load (word ∷ l) formed fine =
    let n = neither (obeyed_badly load word) (any_obeyed_badly (load_after load word) l) fine in
    words_formed (load_after load word) l (word_formed load word formed n.0) n.1

-- in a sound stream no bad REPLAY is obeyed
sound_words : (m : List ℕ) (high : ℕ) (load : Option Load) (l : List ℕ) → fault_of m high load l ≡ accepted tt → any_obeyed_badly load (stream_of m high l).words ≡ false
unfolding stream_of any_obeyed_badly
sound_words m high load [] sound = refl
sound_words m high load (word ∷ l) sound =
    let w = emission_of m high word in
    let p = sound_next m high load word l sound in
    rw (bad_append load w.words (stream_of m w.high l).words, p.1.0) (sound_words m w.high (loads_after load w.words) l p.1.1)

piece_formed : (m : List ℕ) (c : Carried) (l out : List ℕ) (n : ℕ) → (expand_of m c l out).answer ≡ accepted n →
    load_formed (expand_of m c l out).carried.load ≡ true
unfolding expansion_of
piece_formed m c l out n e =
    let a = accepts m c l out n e in
    let words = (stream_of m c.high_mask l).words in
    rw (a.done, play_load (buffer c.slots c.load) words) (words_formed c.load words a.load (sound_words m c.high_mask c.load l a.sound))

close_formed : (c : Carried) (n : ℕ) → (close_of c).answer ≡ accepted n → load_formed (close_of c).carried.load ≡ true
unfolding close_of
close_formed c n e = ap (λ (k : Expanding). load_formed k.carried.load) (if_done c [] (closed c) (passed_check c [] (closed c) (close_check c) e))

pub carries_formed : CarriesFormed
carries_formed = record { fresh = refl; piece = piece_formed; close = close_formed; closes = close_done }
