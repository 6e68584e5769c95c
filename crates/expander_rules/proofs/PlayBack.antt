-- A load and a play of the same slots give the words back.
use Prim.Native.Nat.{ℕ, ◌+◌, ◌-◌, ◌%◌, ◌≤◌, ◌<◌}
use mathlib.Core.Bool.{Bool, true, false}
use mathlib.Core.List.{List, [], ◌∷◌, ◌++◌, append-nil}
use Rattle.std.specs.Prelude.{Option, None}
use mathlib.Core.Path.{◌≡◌, refl, sym, ap, ◌∙◌}
use native.Mathlib.Nat.{mod-eq_of_lt}
use native.Mathlib.Omega.{arith}
use lib.ListN.{length, get_or, set, length-set}
use lib.Seq.{get_or-set_same, get_or-set_other}
use borrow.Author.Tests.{lt-ltb, ne_eqb}
use Rattle.expander_rules.specs.Sizes.{slot_count}
use Rattle.expander_rules.specs.Templates.{words_if}
use Rattle.expander_rules.specs.Replay.{start_of, length_of, runs_while_loading, taking, load_by, load_after, slots_from, buffer, written_obeyed, written, slots_after, Played, played, played_then, play_words}
use Rattle.expander_rules.specs.Promises.{LoadsPlayBack}
use Rattle.expander_rules.specs.declared.Load.{Load}
use Rattle.expander_rules.proofs.ReplayLaws.{play_append}

-- the slots with words stored from slot i on
unfoldable stored : List ℕ → ℕ → List ℕ → List ℕ
stored slots i [] = slots
stored slots i (word ∷ l) = stored (set slots (i % slot_count) word) ((i + 1) % slot_count) l

words_if_lem : (shown : Bool) (word : ℕ) (l : List ℕ) → words_if shown (word ∷ []) ++ words_if shown l ≡ words_if shown (word ∷ l)
words_if_lem true word l = refl
words_if_lem false word l = refl

-- a load takes a word that others follow, and its last
module _ (slots : List ℕ) (i left : ℕ) (shown : Bool) (word : ℕ) (l : List ℕ) where
  abbrev takes : Option Load → Played
  takes on =
      let held = buffer (set slots (i % slot_count) word) on in
      played_then (played (words_if shown (word ∷ [])) held) (play_words held l)

  one_of_more : 1 < left → play_words (buffer slots (taking i left shown)) (word ∷ l) ≡ takes (taking ((i + 1) % slot_count) (left - 1) shown)
  unfolding play_words written slots_after load_after
  one_of_more h = rw (lt-ltb 0 left (omega arith), ne_eqb left 1 (λ e. omega arith))

  the_last : left ≡ 1 → play_words (buffer slots (taking i left shown)) (word ∷ l) ≡ takes None
  unfolding play_words written slots_after load_after
  the_last h = rw h

-- a load takes its words, and is over with the last
loaded : (slots : List ℕ) (i left : ℕ) (shown : Bool) (l : List ℕ) → length l ≡ left → 0 < left →
    play_words (buffer slots (taking i left shown)) l ≡ played (words_if shown l) (buffer (stored slots i l) None)
unfolding play_words stored
loaded slots i left shown [] h k = absurd (omega arith)
loaded slots i left shown (word ∷ []) h k =
    the_last slots i left shown word [] (omega arith)
    ∙ ap (λ (x : List ℕ). played x (buffer (set slots (i % slot_count) word) None)) (append-nil (words_if shown (word ∷ [])))
loaded slots i left shown (word ∷ (next ∷ l)) h k =
    let on = set slots (i % slot_count) word in
    let after = taking ((i + 1) % slot_count) (left - 1) shown in
    one_of_more slots i left shown word (next ∷ l) (omega arith)
    ∙ ap (λ (p : Played). played_then (played (words_if shown (word ∷ [])) (buffer on after)) p)
    (loaded on ((i + 1) % slot_count) (left - 1) shown (next ∷ l) (omega arith) (omega arith))
    ∙ ap (λ (x : List ℕ). played x (buffer (stored on ((i + 1) % slot_count) (next ∷ l)) None)) (words_if_lem shown word (next ∷ l))

-- a slot that comes d slots after slot i is left as it was by as many words at most
untouched : (slots : List ℕ) (i k d : ℕ) (l : List ℕ) → i < slot_count → k < slot_count → (i + d) % slot_count ≡ k → length l ≤ d → d < slot_count →
    get_or (stored slots i l) k 0 ≡ get_or slots k 0
unfolding stored
untouched slots i k d [] p q e h r = refl
untouched slots i k d (word ∷ l) p q e h r =
    untouched (set slots (i % slot_count) word) ((i + 1) % slot_count) k (d - 1) l (omega arith) q (omega arith) (omega arith) (omega arith)
    ∙ get_or-set_other slots (i % slot_count) k word 0 (λ z. omega arith)

kept : (slots : List ℕ) (i : ℕ) (l : List ℕ) → length slots ≡ slot_count → i < slot_count → length l ≤ slot_count → slots_from (stored slots i l) i (length l) ≡ l
unfolding stored slots_from
kept slots i [] long p h = refl
kept slots i (word ∷ l) long p h =
    let first = set slots (i % slot_count) word in
    let at : i % slot_count ≡ i = mod-eq_of_lt p in
    let here : get_or (stored first ((i + 1) % slot_count) l) i 0 ≡ word =
    untouched first ((i + 1) % slot_count) i 31 l (omega arith) p (omega arith) (omega arith) (omega arith) ∙ rw at (get_or-set_same slots i word 0 (omega arith)) in
    rw (here, kept first ((i + 1) % slot_count) l (length-set slots (i % slot_count) word ∙ long) (omega arith) (omega arith))

pub back : LoadsPlayBack
unfolding play_words written written_obeyed slots_after load_after
back b load play words long off some few rl ll nl rp lp np sp =
    let start = start_of load in
    let shown = runs_while_loading load in
    let held = stored b.slots start words in
    let taken = loaded b.slots start (length_of load) shown words (sym nl) (omega arith) in
    let given : slots_from held start (length words) ≡ words = kept b.slots start words long (omega arith) few in
    rw (off, rl, ll, play_append (buffer b.slots (load_by load)) words (play ∷ []), taken, rp, lp, np, sp, given, append-nil words)
