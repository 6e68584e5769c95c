-- Laws of words that pass the replay stage, of their count and of the load.
use Prim.Native.Nat.{ℕ, zero, suc, ◌+◌, ◌-◌, ◌%◌, ◌≤◌, ◌<◌}
use mathlib.Core.Bool.{Bool, true, false, cond, not, ◌||◌}
use mathlib.Core.List.{List, [], ◌∷◌, ◌++◌, append_assoc}
use Rattle.std.specs.Prelude.{Option}
use mathlib.Core.Path.{◌≡◌, refl, sym, ap, ◌∙◌}
use native.Mathlib.Omega.{arith}
use lib.ListN.{length, get_or, length-append, length-set}
use Rattle.bits.proofs.Choices.{neither, cond_both}
use Rattle.expander_rules.specs.Sizes.{slot_count}
use Rattle.expander_rules.specs.Templates.{words_if}
use Rattle.expander_rules.specs.Stream.{is_replay, any_word, any_replay}
use Rattle.expander_rules.specs.Replay.{is_load, start_of, length_of, is_loading, is_shown, next_slot, load_after, slots_from, Buffer, buffer, written_obeyed, written, slots_after, Played, played, played_then, play_word, play_words, loads_after, obeyed_badly, any_obeyed_badly}
use Rattle.expander_rules.specs.Counts.{obeyed_count, written_count, played_count}
use Rattle.expander_rules.specs.Promises.{SlotsKept, PlainWords}
use Rattle.expander_rules.specs.declared.Load.{Load}
use Rattle.expander_rules.proofs.Words.{or_assoc}

-- words in two parts
pub play_append : (b : Buffer) (x y : List ℕ) → play_words b (x ++ y) ≡ played_then (play_words b x) (play_words (play_words b x).buffer y)
unfolding play_words
play_append b [] y = refl
play_append b (word ∷ x) y =
    let w = play_word b word in
    let first = play_words w.buffer x in
    let second = play_words first.buffer y in
    rw (play_append w.buffer x y) (ap (λ (l : List ℕ). played l second.buffer) (sym (append_assoc w.words first.words second.words)))

pub loads_append : (load : Option Load) (x y : List ℕ) → loads_after load (x ++ y) ≡ loads_after (loads_after load x) y
unfolding loads_after
loads_append load [] y = refl
loads_append load (word ∷ x) y = loads_append (load_after load word) x y

pub bad_append : (load : Option Load) (x y : List ℕ) → any_obeyed_badly load (x ++ y) ≡ (any_obeyed_badly load x || any_obeyed_badly (loads_after load x) y)
unfolding any_obeyed_badly loads_after
bad_append load [] y = refl
bad_append load (word ∷ x) y =
    let on = load_after load word in
    rw (bad_append on x y) (or_assoc (obeyed_badly load word) (any_obeyed_badly on x) (any_obeyed_badly (loads_after on x) y))

pub count_append : (load : Option Load) (x y : List ℕ) → played_count load (x ++ y) ≡ played_count load x + played_count (loads_after load x) y
unfolding played_count loads_after
count_append load [] y = omega arith
count_append load (word ∷ x) y = omega (arith, count_append (load_after load word) x y)

-- the load and the count, whatever the slots hold
pub play_load : (b : Buffer) (l : List ℕ) → (play_words b l).buffer.load ≡ loads_after b.load l
unfolding play_words loads_after
play_load b [] = refl
play_load b (word ∷ l) = play_load (play_word b word).buffer l

slots_long : (slots : List ℕ) (i n : ℕ) → length (slots_from slots i n) ≡ n
unfolding slots_from
slots_long slots i zero = refl
slots_long slots i (suc n) = ap suc (slots_long slots ((i + 1) % slot_count) n)

written_long : (b : Buffer) (word : ℕ) → length (written b word) ≡ written_count b.load word
unfolding written written_obeyed written_count obeyed_count
written_long b word = go (is_loading b.load) (is_shown b.load) (is_replay word) (is_load word)
  where
    n : ℕ
    n = length_of word

    s : List ℕ
    s = slots_from b.slots (start_of word) n

    go : (on shown replay load : Bool) →
        length (cond on (words_if shown (word ∷ [])) (cond replay (words_if (not load) s) (word ∷ []))) ≡ cond on (cond shown 1 0) (cond replay (cond load 0 n) 1)
    go true true replay load = refl
    go true false replay load = refl
    go false shown true true = refl
    go false shown true false = slots_long b.slots (start_of word) n
    go false shown false load = refl

pub play_long : (b : Buffer) (l : List ℕ) → length (play_words b l).words ≡ played_count b.load l
unfolding play_words played_count
play_long b [] = refl
play_long b (word ∷ l) =
    let w = play_word b word in
    omega (arith, length-append w.words (play_words w.buffer l).words, written_long b word, play_long w.buffer l)

-- as many slots as before
pub slots_kept : SlotsKept
unfolding play_words slots_after
slots_kept b [] = refl
slots_kept b (word ∷ l) =
    slots_kept (play_word b word).buffer l
    ∙ cond_both (λ (s : List ℕ). length s ≡ length b.slots) (is_loading b.load) {y = b.slots} (length-set b.slots (next_slot b.load) word) refl

-- words without a REPLAY
plain_word : (b : Buffer) (word : ℕ) → is_loading b.load ≡ false → is_replay word ≡ false → play_word b word ≡ played (word ∷ []) b
unfolding written written_obeyed slots_after load_after
plain_word b word off other = rw (off, other)

pub plain_words : PlainWords
unfolding play_words any_word
plain_words b [] off none = refl
plain_words b (word ∷ l) off none =
    let n = neither (is_replay word) (any_replay l) none in
    ap (λ (p : Played). played_then p (play_words p.buffer l)) (plain_word b word off n.0)
    ∙ ap (λ (p : Played). played_then (played (word ∷ []) b) p) (plain_words b l off n.1)

module _ (load : Option Load) (l : List ℕ) (off : is_loading load ≡ false) (none : any_replay l ≡ false) where
  pub plain_loads : loads_after load l ≡ load
  plain_loads = sym (play_load (buffer [] load) l) ∙ ap (λ (p : Played). p.buffer.load) (plain_words (buffer [] load) l off none)

  pub plain_count : played_count load l ≡ length l
  plain_count = sym (play_long (buffer [] load) l) ∙ ap (λ (p : Played). length p.words) (plain_words (buffer [] load) l off none)

not_replay : (load : Option Load) (word : ℕ) → is_replay word ≡ false → obeyed_badly load word ≡ false
unfolding obeyed_badly
not_replay load word h = rw h

pub plain_fine : (load : Option Load) (l : List ℕ) → any_replay l ≡ false → any_obeyed_badly load l ≡ false
unfolding any_obeyed_badly any_word
plain_fine load [] none = refl
plain_fine load (word ∷ l) none =
    let n = neither (is_replay word) (any_replay l) none in
    rw (not_replay load word n.0) (plain_fine (load_after load word) l n.1)

-- a turn of a loop over the slots, and its end
pub slots_next : (slots : List ℕ) (slot i count : ℕ) → i < count →
    slots_from slots slot (count - i) ≡ (get_or slots slot 0 ∷ []) ++ slots_from slots ((slot + 1) % slot_count) (count - (i + 1))
unfolding slots_from
slots_next slots slot i count h = let e : count - i ≡ suc (count - (i + 1)) = omega arith in rw e

pub slots_end : (slots : List ℕ) (slot i count : ℕ) → count ≤ i → slots_from slots slot (count - i) ≡ []
unfolding slots_from
slots_end slots slot i count h = let e : count - i ≡ 0 = omega arith in rw e
