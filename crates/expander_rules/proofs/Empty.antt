-- A carried load with no words to come takes nothing.
use Prim.Native.Nat.{ℕ}
use mathlib.Core.Bool.{Bool, true, false, cond, ◌&&◌}
use mathlib.Core.List.{List, [], ◌∷◌, ◌++◌}
use Rattle.std.specs.Prelude.{Option, None}
use mathlib.Core.Path.{◌≡◌, refl, ap}
use borrow.Author.Tests.{lt-ltb}
use Rattle.machine.specs.Answers.{Told, accepted, refused}
use Rattle.expander_rules.specs.Sizes.{slot_count}
use Rattle.expander_rules.specs.Stream.{is_replay, emission_of, stream_of}
use Rattle.expander_rules.specs.Replay.{is_load, taking, is_loading, load_by, load_after, loads_after, obeyed_badly, any_obeyed_badly, buffer, written, slots_after, Played, play_words}
use Rattle.expander_rules.specs.State.{carry, load_formed}
use Rattle.expander_rules.specs.Call.{Expanding, expansion_of, fault_of, expand_check, if_accepted, done_with, expand_of}
use Rattle.expander_rules.specs.Promises.{SameButLoad, EmptyLoads}
use Rattle.expander_rules.specs.declared.Load.{Load}

-- two loads that take the same words: one and the same, or neither takes any
data Alike (a b : Option Load) : Type 0 where
  same : a ≡ b → Alike a b
  idle : is_loading a ≡ false → is_loading b ≡ false → Alike a b

-- a word that neither takes
alike_begun : (a b : Option Load) (word : ℕ) → is_loading a ≡ false → is_loading b ≡ false → Alike (load_after a word) (load_after b word)
unfolding load_after
alike_begun a b word p q = rw (p, q) (go (is_replay word && is_load word))
  where
    go : (begins : Bool) → Alike (cond begins (load_by word) a) (cond begins (load_by word) b)
    go true = same refl
    go false = idle p q

alike_word : (a b : Option Load) (word : ℕ) → Alike a b → Alike (load_after a word) (load_after b word)
alike_word a b word (same e) = same (ap (λ (x : Option Load). load_after x word) e)
alike_word a b word (idle p q) = alike_begun a b word p q

alike_words : (a b : Option Load) (l : List ℕ) → Alike a b → Alike (loads_after a l) (loads_after b l)
unfolding loads_after
alike_words a b [] h = h
alike_words a b (word ∷ l) h = alike_words (load_after a word) (load_after b word) l (alike_word a b word h)

alike_badly : (a b : Option Load) (word : ℕ) → Alike a b → obeyed_badly a word ≡ obeyed_badly b word
unfolding obeyed_badly
alike_badly a b word (same e) = ap (λ (x : Option Load). obeyed_badly x word) e
alike_badly a b word (idle p q) = rw (p, q)

alike_bad : (a b : Option Load) (l : List ℕ) → Alike a b → any_obeyed_badly a l ≡ any_obeyed_badly b l
unfolding any_obeyed_badly
alike_bad a b [] h = refl
alike_bad a b (word ∷ l) h = rw (alike_badly a b word h, alike_bad (load_after a word) (load_after b word) l (alike_word a b word h))

alike_fault : (m : List ℕ) (high : ℕ) (a b : Option Load) (l : List ℕ) → Alike a b → fault_of m high a l ≡ fault_of m high b l
unfolding fault_of
alike_fault m high a b [] h = refl
alike_fault m high a b (word ∷ l) h =
    let w = emission_of m high word in
    rw (alike_bad a b w.words h, alike_fault m w.high (loads_after a w.words) (loads_after b w.words) l (alike_words a b w.words h))

-- the words written out, and the slots
record SamePlay (x y : Played) : Type 0 where
  words : x.words ≡ y.words
  slots : x.buffer.slots ≡ y.buffer.slots

alike_written : (s : List ℕ) (a b : Option Load) (word : ℕ) → Alike a b → written (buffer s a) word ≡ written (buffer s b) word
unfolding written
alike_written s a b word (same e) = ap (λ (x : Option Load). written (buffer s x) word) e
alike_written s a b word (idle p q) = rw (p, q)

alike_slots : (s : List ℕ) (a b : Option Load) (word : ℕ) → Alike a b → slots_after (buffer s a) word ≡ slots_after (buffer s b) word
unfolding slots_after
alike_slots s a b word (same e) = ap (λ (x : Option Load). slots_after (buffer s x) word) e
alike_slots s a b word (idle p q) = rw (p, q)

alike_play : (s : List ℕ) (a b : Option Load) (l : List ℕ) → Alike a b → SamePlay (play_words (buffer s a) l) (play_words (buffer s b) l)
unfolding play_words
alike_play s a b [] h = record { words = refl; slots = refl }
alike_play s a b (word ∷ l) h =
    let later = alike_play (slots_after (buffer s b) word) (load_after a word) (load_after b word) l (alike_word a b word h) in
    rw (alike_written s a b word h, alike_slots s a b word h)
    (record { words = ap (λ (x : List ℕ). written (buffer s b) word ++ x) later.words; slots = later.slots })

-- calls with loads that take the same words
alike_if : (high : ℕ) (s : List ℕ) (a b : Option Load) (out : List ℕ) (x y : Expanding) (check : Told (Unit {0})) → SameButLoad x y →
    SameButLoad (if_accepted check (carry high s a) out x) (if_accepted check (carry high s b) out y)
alike_if high s a b out x y (accepted t) h = h
alike_if high s a b out x y (refused number values) h = record { answer = refl; output = refl; mask = refl; slots = refl }

module _ (m : List ℕ) (high : ℕ) (s : List ℕ) (a b : Option Load) (l out : List ℕ) (h : Alike a b) where
  alike_done : SameButLoad (done_with (expansion_of m (carry high s a) l) out) (done_with (expansion_of m (carry high s b) l) out)
  unfolding expansion_of
  alike_done =
      let p = alike_play s a b (stream_of m high l).words h in
      rw p.words (record { answer = refl; output = refl; mask = refl; slots = p.slots })

  alike_check : load_formed a ≡ true → load_formed b ≡ true → expand_check m (carry high s a) l out ≡ expand_check m (carry high s b) l out
  unfolding expand_check expansion_of
  alike_check p q = rw (p, q, alike_fault m high a b l h, (alike_play s a b (stream_of m high l).words h).words)

  alike_call : load_formed a ≡ true → load_formed b ≡ true → SameButLoad (expand_of m (carry high s a) l out) (expand_of m (carry high s b) l out)
  unfolding expand_of
  alike_call p q = rw (alike_check p q) (alike_if high s a b out _ _ (expand_check m (carry high s b) l out) alike_done)

pub empty_loads : EmptyLoads
empty_loads m high s next shown l out h = alike_call m high s (taking next 0 shown) None l out (idle refl refl) (rw (lt-ltb next slot_count h)) refl
