-- Laws of a list written over from a place on.
use Prim.Native.Nat.{ℕ, suc, ◌+◌, ◌-◌, ◌≤◌, ◌<◌}
use mathlib.Core.Path.{◌≡◌, sym, ap, subst, ◌∙◌}
use mathlib.Core.List.{List, [], ◌∷◌, ◌++◌, append_assoc, append-nil}
use native.Mathlib.Nat.{add_assoc, add-zero}
use native.Mathlib.Numerals.{add-one}
use native.Mathlib.Omega.{arith}
use lib.ListN.{get_or, length, take, drop, set, length-take, length-drop, length-append, take-append-drop, drop_of_length-le, replicate}
use lib.Seq.{drop-cons, take_at, drop_at, drop-drop, set_split}
use borrow.Rule.Slice.PartMut.{put_mid}
use Rattle.bits.specs.Overwrite.{over, Wrote}

pub over_long : {A : Type 0} (l : List A) (k : ℕ) (a : List A) → k + length a ≤ length l → length (over l k a) ≡ length l
unfolding over
over_long l k a h = simp (length-append, length-take, length-drop) (omega arith)

-- two in a row are one
pub over_over : {A : Type 0} (l : List A) (k : ℕ) (a b : List A) → k ≤ length l → over (over l k a) (k + length a) b ≡ over l k (a ++ b)
unfolding over
over_over l k a b h =
    let d = drop (k + length a) l in
    let p : length (take k l ++ a) ≡ k + length a = simp (length-append, length-take) (omega arith) in
    let e : take k l ++ (a ++ d) ≡ (take k l ++ a) ++ d = sym (append_assoc (take k l) a d) in
    let t : take (k + length a) (take k l ++ (a ++ d)) ≡ take k l ++ a = rw e (take_at (take k l ++ a) d (k + length a) p) in
    let u : drop (k + length a + length b) (take k l ++ (a ++ d)) ≡ drop (k + (length a + length b)) l =
    rw (e, ← drop-drop (length b) (k + length a), drop_at (take k l ++ a) d (k + length a) p, drop-drop, add_assoc) in
    rw (t, u) (simp (append_assoc, length-append))

-- the same for lists that go by names: the second begins where the first ended
pub over_then : {A : Type 0} (l m n : List A) (k j : ℕ) (a b : List A) → k ≤ length l → m ≡ over l k a → k + length a ≡ j → n ≡ over m j b → n ≡ over l k (a ++ b)
over_then l m n k j a b h p q r = r ∙ rw (p, ← q) (over_over l k a b h)

pub over_set : {A : Type 0} (l : List A) (k : ℕ) (v : A) → k < length l → set l k v ≡ over l k (v ∷ [])
unfolding over
over_set l k v h = rw (add-one k) (set_split l k v h)

pub over_none : {A : Type 0} (l : List A) (k : ℕ) → over l k [] ≡ l
unfolding over
over_none l k = rw add-zero (take-append-drop k l)

-- a list written over whole
pub over_whole : {A : Type 0} (l vs : List A) → length l ≤ length vs → over l 0 vs ≡ vs
unfolding over
over_whole l vs h =
    let e : drop (0 + length vs) l ≡ [] = drop_of_length-le l {i = 0 + length vs} (omega arith) in
    rw e (append-nil vs)

-- the items of a list, written one by one: one more of them, and none left
module _ {A : Type 0} (l : List A) (p i : ℕ) (t : List A) where
  pub over_next : {v : A} (z : A) {q : ℕ} → v ≡ get_or t i z → q ≡ p + 1 → i < length t → p < length l → over (set l p v) q (drop (i + 1) t) ≡ over l p (drop i t)
  over_next z e f h k = rw (e, f, drop-cons t i z h, over_set l p (get_or t i z) k, add-one i) (over_over l p (get_or t i z ∷ []) (drop (suc i) t) (omega arith))

  pub over_end : length t ≤ i → over l p (drop i t) ≡ l
  over_end h = rw (drop_of_length-le t h) (over_none l p)

-- the same value so many times, written one by one: one time more, and none left
pub fill_step : {A : Type 0} (l : List A) (k n i : ℕ) (v : A) → k + n ≤ length l → i < n →
    over (set l (k + i) v) (k + (i + 1)) (replicate (n - (i + 1)) v) ≡ over l (k + i) (replicate (n - i) v)
fill_step l k n i v h m =
    let e : n - i ≡ suc (n - (i + 1)) = omega arith in
    let p : k + (i + 1) ≡ k + i + length (v ∷ []) = omega arith in
    rw (over_set l (k + i) v (omega arith), e, p) (over_over l (k + i) (v ∷ []) (replicate (n - (i + 1)) v) (omega arith))

pub fill_done : {A : Type 0} (l : List A) (k n i : ℕ) (v : A) → n ≤ i → over l (k + i) (replicate (n - i) v) ≡ l
fill_done l k n i v h =
    let e : n - i ≡ 0 = omega arith in
    rw e (over_none l (k + i))

-- two writes in a row are one
pub wrote_then : {A : Type 0} {l m n : List A} {k j i : ℕ} {a b : List A} → Wrote l k a m j → Wrote m j b n i → k ≤ length l → Wrote l k (a ++ b) n i
wrote_then {A} {l} {m} {n} {k} {j} {i} {a} {b} p q h =
    record {
      placed = q.placed ∙ rw (p.placed, length-append a b) (add_assoc k (length a) (length b));
      list = over_then l m n k j a b h p.list (sym p.placed) q.list;
    }

-- what is written ends within the list
pub wrote_within : {A : Type 0} {l m : List A} {k n : ℕ} {vs : List A} → Wrote l k vs m n → k ≤ length l → n ≤ length m
unfolding over
wrote_within w h = rw (w.placed, w.list) (simp (length-append, length-take, length-drop) (omega arith))

-- the same bytes under another name
pub wrote_as : {A : Type 0} {l m : List A} {k n : ℕ} {vs ws : List A} → vs ≡ ws → Wrote l k vs m n → Wrote l k ws m n
wrote_as {A} {l} {m} {k} {n} e w = subst (λ (x : List A). Wrote l k x m n) e w

-- a part of a list written over whole
pub put_mid-over : {A : Type 0} (a k : ℕ) (l ys vs : List A) → ys ≡ vs → k ≡ length vs → put_mid a k l ys ≡ over l a vs
unfolding over
put_mid-over a k l ys vs e h = rw (e, h) (ap (λ x. take a l ++ (vs ++ x)) (drop-drop (length vs) a l))
