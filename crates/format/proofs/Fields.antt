-- How far fields are good: laws of one field, of two parts in a row, and of a loop over many.
use Prim.Native.Nat.{ℕ, zero, suc, min, ◌+◌, ◌*◌, ◌-◌, ◌/◌, ◌^◌, ◌≤◌, ◌<◌}
use mathlib.Core.Path.{◌≡◌, refl, sym, ap, ap₂, ◌∙◌}
use mathlib.Core.Bool.{Bool, true, false, cond, ◌&&◌}
use mathlib.Core.List.{List}
use mathlib.Core.Logic.{◌⊎◌, inl, inr}
use native.Mathlib.Nat.{add_assoc, suc-mul, mul-le-mul_right, div-mul-le_self, lt-div-mul-add}
use native.Mathlib.Numerals.{add-one}
use native.Mathlib.Omega.{arith}
use lib.Dec.{leb, ltb, eqb}
use lib.ListN.{length, drop, length-drop}
use lib.Seq.{drop-drop}
use borrow.Author.Tests.{le-ltb, lt-ltb, le-leb, lt-leb, ltb-true, ltb-false, leb-true}
use Rattle.bits.specs.Bytes.{le, Bytes}
use Rattle.bits.proofs.Bytes.{bytes_drop, le_lt}
use Rattle.bits.proofs.Choices.{and_left, and_right, cond_both}
use Rattle.format.specs.Format.{Format, num_good, num, good_across, both, many_get, many_good, numbers, most_after, head_bytes, head, kind}

-- ---- one field of w bytes
module _ (w lo hi : ℕ) (bs : List ℕ) where
  pub num_in : w ≤ length bs → lo ≤ le w bs → le w bs ≤ hi → num_good w lo hi bs ≡ w
  unfolding num_good
  num_in a b c = simp (le-leb _ _ a, le-leb _ _ b, le-leb _ _ c)

  pub num_cut : length bs < w → num_good w lo hi bs ≡ 0
  unfolding num_good
  num_cut a = simp (lt-leb _ _ a)

  pub num_out : w ≤ length bs → (lo ≤ le w bs × hi < le w bs) ⊎ (le w bs < lo) → 0 ≡ num_good w lo hi bs
  unfolding num_good
  num_out a (inl (b, c)) = simp (le-leb _ _ a, le-leb _ _ b, lt-leb _ _ c)
  num_out a (inr b) = simp (le-leb _ _ a, lt-leb _ _ b)

  pub num_le : num_good w lo hi bs ≤ w
  unfolding num_good
  num_le = cond_both (λ (n : ℕ). n ≤ w) (leb w (length bs) && (leb lo (le w bs) && leb (le w bs) hi)) (omega arith) (omega arith)

  pub num_whole : 0 < w → num_good w lo hi bs ≡ w → (w ≤ length bs) × (lo ≤ le w bs) × (le w bs ≤ hi)
  unfolding num_good
  num_whole pos e =
      let there = leb w (length bs) in
      let low = leb lo (le w bs) in
      let high = leb (le w bs) hi in
      let h = chosen (there && (low && high)) e in
      let k = and_right there (low && high) h in
      (leb-true _ _ (and_left there (low && high) h), leb-true _ _ (and_left low high k), leb-true _ _ (and_right low high k))
    where
      chosen : (b : Bool) → cond b w 0 ≡ w → b ≡ true
      chosen true z = refl
      chosen false z = absurd (omega arith)

-- ---- two parts in a row
pub across_on : (a n b : ℕ) → n ≤ a → good_across a n b ≡ n + b
unfolding good_across
across_on a n b h = simp (le-ltb a n h)

pub across_stop : (a n b : ℕ) → a < n → good_across a n b ≡ a
unfolding good_across
across_stop a n b h = simp (lt-ltb a n h)

pub across_le : (a n b m : ℕ) → a ≤ n → b ≤ m → good_across a n b ≤ n + m
unfolding good_across
across_le a n b m h k = cond_both (λ (x : ℕ). x ≤ n + m) (ltb a n) (omega arith) (omega arith)

-- where both are whole, each is
pub across_whole : (a n b m : ℕ) → a ≤ n → b ≤ m → good_across a n b ≡ n + m → (a ≡ n) × (b ≡ m)
unfolding good_across
across_whole a n b m h k e = go (ltb a n) refl e
  where
    go : (t : Bool) → ltb a n ≡ t → cond t a (n + b) ≡ n + m → (a ≡ n) × (b ≡ m)
    go true u z = absurd (omega (arith, ltb-true a n u))
    go false u z = (omega (arith, ltb-false a n u), omega arith)

-- the same for parts that go by names
pub across_of : {r a b A B : ℕ} (n : ℕ) → r ≡ good_across a n b → a ≡ A → b ≡ B → r ≡ good_across A n B
across_of n e p q = e ∙ ap₂ (λ (x y : ℕ). good_across x n y) p q

-- what is read or found at a place inside a part
pub inside : {A : Type 0} {r : A} (f : List ℕ → A) (k at : ℕ) (s : List ℕ) → r ≡ f (drop (at + k) s) → r ≡ f (drop k (drop at s))
inside f k at s e = e ∙ ap f (sym (drop-drop k at s))

-- the same two parts down
pub inside_two : {A : Type 0} {r : A} (f : List ℕ → A) (j k at : ℕ) (s : List ℕ) → r ≡ f (drop (at + k + j) s) → r ≡ f (drop j (drop k (drop at s)))
inside_two f j k at s e = inside (λ b. f (drop j b)) k at s (inside f j (at + k) s e)

-- two formats in a row from a place on, by how far each is good at its own place
pub both_good : {A B : Type 0} (f : Format A) (g : Format B) (at : ℕ) (s : List ℕ) {r a b : ℕ} → r ≡ good_across a f.size b →
    a ≡ f.good (drop at s) → b ≡ g.good (drop (at + f.size) s) → r ≡ (both f g).good (drop at s)
both_good f g at s e p q = across_of f.size e p (inside g.good f.size at s q)

-- three in a row
pub three_good : {A B C : Type 0} (f : Format A) (g : Format B) (h : Format C) (at : ℕ) (s : List ℕ) {r x a b c : ℕ} →
    r ≡ good_across x (f.size + g.size) c → x ≡ good_across a f.size b → a ≡ f.good (drop at s) → b ≡ g.good (drop (at + f.size) s) →
    c ≡ h.good (drop (at + (f.size + g.size)) s) → r ≡ (both (both f g) h).good (drop at s)
three_good f g h at s e d p q o = both_good (both f g) h at s e (both_good f g at s d p q) o

-- the same from the start on, where the first format's size goes by a name
pub both_good_start : {A B : Type 0} (f : Format A) (g : Format B) (s : List ℕ) {n r a b : ℕ} → n ≡ f.size → r ≡ good_across a n b →
    a ≡ f.good s → b ≡ g.good (drop n s) → r ≡ (both f g).good s
both_good_start f g s {n} z e p q = rw z at (across_of n e p q)

-- a record, by its head and its body
pub kind_good : {A : Type 0} (k : ℕ) (f : Format A) (at : ℕ) (s : List ℕ) {r a b : ℕ} → r ≡ good_across a head_bytes b →
    a ≡ (head f.size k).good (drop at s) → b ≡ f.good (drop (at + head_bytes) s) → r ≡ (kind k f).good (drop at s)
kind_good k f at s e p q = both_good (head f.size k) f at s e p q

-- what is read of the two, and of a record's body
pub both_read : {A B : Type 0} (f : Format A) (g : Format B) (at : ℕ) (s : List ℕ) {x : A} {y : B} → x ≡ f.get (drop at s) →
    y ≡ g.get (drop (at + f.size) s) → (x, y) ≡ (both f g).get (drop at s)
both_read f g at s p q = λ i. (p i, inside g.get f.size at s q i)

pub kind_read : {A : Type 0} (k : ℕ) (f : Format A) (at : ℕ) (s : List ℕ) {x : A} → x ≡ f.get (drop (at + head_bytes) s) → x ≡ (kind k f).get (drop at s)
kind_read k f at s e = inside f.get head_bytes at s e

-- a record of numbers that fill a part of a known length
pub numbers_read : (k w hi n at : ℕ) (s : List ℕ) {r : List ℕ} {m : ℕ} → m ≡ n → r ≡ many_get (le w) w m (drop (at + head_bytes) s) →
    r ≡ (kind k (numbers n w hi)).get (drop at s)
numbers_read k w hi n at s e h = kind_read k (numbers n w hi) at s (rw e at h)

-- a field after a kind byte, by the limit that the byte gives
pub after_kind_good : (w most at k : ℕ) (s : List ℕ) {r h x : ℕ} → r ≡ (num w 0 h).good (drop (at + k) s) → h ≡ most_after x most → x ≡ le 1 (drop at s) →
    r ≡ (num w 0 (most_after (le 1 (drop at s)) most)).good (drop k (drop at s))
after_kind_good w most at k s e f g =
    inside (num w 0 (most_after (le 1 (drop at s)) most)).good k at s
    (e ∙ ap (λ (h : ℕ). (num w 0 h).good (drop (at + k) s)) (f ∙ ap (λ (x : ℕ). most_after x most) g))

pub after_kind_room : (k most limit : ℕ) → 0 < limit → most < limit → most_after k most < limit
unfolding most_after
after_kind_room k most limit pos h = cond_both (λ (n : ℕ). n < limit) (eqb k 0) pos h

-- three in a row, however they are grouped
pub across_across : (a n b m c : ℕ) → b ≤ m → good_across (good_across a n b) (n + m) c ≡ good_across a n (good_across b m c)
unfolding good_across
across_across a n b m c h = go (ltb a n) (ltb b m) refl refl
  where
    go : (t u : Bool) → ltb a n ≡ t → ltb b m ≡ u → good_across (cond t a (n + b)) (n + m) c ≡ cond t a (n + cond u b (m + c))
    go true u p q = across_stop a (n + m) c (omega (arith, ltb-true a n p))
    go false true p q = across_stop (n + b) (n + m) c (omega (arith, ltb-true b m q))
    go false false p q = across_on (n + b) (n + m) c (omega (arith, ltb-false b m q)) ∙ add_assoc n m c

-- the place of the value after the i-th, and that each of n values lies within them
pub next_at : (at i w : ℕ) → at + (i + 1) * w ≡ at + i * w + w
next_at at i w = rw (add-one, suc-mul) (omega arith)

pub run_within : (at n i w k : ℕ) → i < n → at + n * w ≤ k → at + i * w + w ≤ k
run_within at n i w k h room =
    let m : (i + 1) * w ≤ n * w = mul-le-mul_right w (omega arith) in
    omega (arith, next_at at i w)

-- ---- n of them: a loop that has found i of them good, and has the rest to look at
pub record Checking (good : List ℕ → ℕ) (w : ℕ) (s : List ℕ) (at n i : ℕ) : Type 0 where
  pub within : i ≤ n
  pub total : i * w + many_good good w (n - i) (drop (at + i * w) s) ≡ many_good good w n (drop at s)

module _ {good : List ℕ → ℕ} {w : ℕ} {s : List ℕ} {at n : ℕ} where
  pub checking_starts : Checking good w s at n 0
  checking_starts =
      let z : n - 0 ≡ n = omega arith in
      let y : at + 0 * w ≡ at = omega arith in
      record { within = omega arith; total = rw (z, y) (omega arith) }

module _ {good : List ℕ → ℕ} {w : ℕ} {s : List ℕ} {at n i : ℕ} (r : Checking good w s at n i) where
  pub checking_goes : i < n → w ≤ good (drop (at + i * w) s) → Checking good w s at n (i + 1)
  unfolding many_good
  checking_goes h whole =
      let m : n - i ≡ suc (n - (i + 1)) = omega arith in
      let p : (i + 1) * w ≡ i * w + w = rw (add-one, suc-mul) (omega arith) in
      record {
        within = omega arith;
        total =
            rw (next_at at i w, p, ← drop-drop w (at + i * w) s, add_assoc (i * w) w _)
            (rw (m, across_on (good (drop (at + i * w) s)) w _ whole) at r.total);
      }

  pub checking_stops : i < n → good (drop (at + i * w) s) < w → i * w + good (drop (at + i * w) s) ≡ many_good good w n (drop at s)
  unfolding many_good
  checking_stops h cut =
      let m : n - i ≡ suc (n - (i + 1)) = omega arith in
      rw (m, across_stop (good (drop (at + i * w) s)) w _ cut) at r.total

  pub checking_ends : n ≤ i → n * w ≡ many_good good w n (drop at s)
  unfolding many_good
  checking_ends h =
      let m : n - i ≡ 0 = omega arith in
      let e : i ≡ n = omega (arith, r.within) in
      let z : n * w + 0 ≡ n * w = omega arith in
      rw (m, e, z) at r.total

-- n pairs of one kind of field are twice as many fields
pub pairs_good : (good : List ℕ → ℕ) (size : ℕ) → ((bs : List ℕ) → good bs ≤ size) → (n : ℕ) (bs : List ℕ) →
    many_good (λ bs. good_across (good bs) size (good (drop size bs))) (size + size) n bs ≡ many_good good size (n * 2) bs
unfolding many_good
pairs_good good size le zero bs = refl
pairs_good good size le (suc n) bs =
    let e : suc n * 2 ≡ suc (suc (n * 2)) = suc-mul n 2 ∙ omega arith in
    rw (e, pairs_good good size le n (drop (size + size) bs), ← drop-drop size size bs)
    (across_across (good bs) size (good (drop size bs)) size _ (le (drop size bs)))

-- fields that may hold any number of w bytes can only be missing or cut: k of n are there
pub any_good : (w : ℕ) → 0 < w → (n k : ℕ) (bs : List ℕ) → Bytes bs → k ≤ n → k * w ≤ length bs → (k < n → length bs < k * w + w) →
    many_good (num_good w 0 (256 ^ w - 1)) w n bs ≡ k * w
unfolding many_good
any_good w pos zero zero bs b h fit end = omega arith
any_good w pos zero (suc k) bs b h fit end = absurd (omega arith)
any_good w pos (suc n) zero bs b h fit end =
    let cut : num_good w 0 (256 ^ w - 1) bs ≡ 0 = num_cut w 0 (256 ^ w - 1) bs (omega (arith, end (omega arith))) in
    rw cut (across_stop 0 w _ pos ∙ omega arith)
any_good w pos (suc n) (suc k) bs b h fit end =
    let size : suc k * w ≡ k * w + w = suc-mul k w in
    let there : w ≤ length bs = omega arith in
    let whole : num_good w 0 (256 ^ w - 1) bs ≡ w = num_in w 0 (256 ^ w - 1) bs there (omega arith) (omega (arith, le_lt w bs b)) in
    let rest : many_good (num_good w 0 (256 ^ w - 1)) w n (drop w bs) ≡ k * w =
    any_good w pos n k (drop w bs) (bytes_drop w bs b) (omega arith) (simp length-drop (omega arith))
    (λ more. simp length-drop (omega (arith, end (omega arith)))) in
    rw (whole, rest) (across_on w w (k * w) (omega arith) ∙ omega arith)

-- as many as fit into the x bytes, or all n
module _ (w : ℕ) (pos : 0 < w) (n : ℕ) (bs : List ℕ) (b : Bytes bs) (x : ℕ) (e : x ≡ length bs) where
  pub any_some : min n (x / w) * w ≡ many_good (num_good w 0 (256 ^ w - 1)) w n bs
  any_some =
      let k = min n (x / w) in
      let few : k * w ≤ x / w * w = mul-le-mul_right w (omega arith) in
      let fit : k * w ≤ length bs = omega (arith, div-mul-le_self x w) in
      let end : k < n → length bs < k * w + w = λ h. let q : k ≡ x / w = omega arith in rw q (omega (arith, lt-div-mul-add {a = x} pos)) in
      sym (any_good w pos n k bs b (omega arith) fit end)

-- the largest number of w bytes, by the bits of a word that it leaves
pub largest_shift : (w : ℕ) → 0 < w → w ≤ 4 → 4294967295 / 2 ^ (32 - 8 * w) ≡ 256 ^ w - 1
largest_shift zero h k = absurd (omega arith)
largest_shift (suc zero) h k = refl
largest_shift (suc (suc zero)) h k = refl
largest_shift (suc (suc (suc zero))) h k = refl
largest_shift (suc (suc (suc (suc zero)))) h k = refl
largest_shift (suc (suc (suc (suc (suc w))))) h k = absurd (omega arith)
