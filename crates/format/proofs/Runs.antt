-- Loops that read or write a run of values: what holds whenever the loop's test is reached, over the values' type.
use Prim.Native.Nat.{ℕ, suc, ◌+◌, ◌*◌, ◌-◌, ◌≤◌, ◌<◌}
use mathlib.Core.Path.{◌≡◌, refl, sym, ap, ◌∙◌}
use mathlib.Core.List.{List, [], ◌∷◌, ◌++◌, append_assoc, append-nil}
use native.Mathlib.Nat.{suc-mul}
use native.Mathlib.Numerals.{add-one}
use native.Mathlib.Omega.{arith}
use lib.ListN.{length, take, drop, get_or, set, length-set, length-append, drop_of_length-le}
use lib.Seq.{take-suc-set, take_all, drop-cons, drop-drop}
use Rattle.bits.specs.Overwrite.{over, Wrote}
use Rattle.bits.proofs.Overwrite.{over_over, over_none, over_long}
use Rattle.format.specs.Format.{many_put, many_get}
use Rattle.format.proofs.Fields.{next_at, run_within}

-- ---- reading: i of the n values stand in the list, and the rest is still to be read
pub record Reading {A : Type 0} (one : List ℕ → A) (w : ℕ) (s : List ℕ) (at : ℕ) (n : ℕ) (dst : List A) (i : ℕ) : Type 0 where
  pub within : i ≤ n
  pub long : length dst ≡ n
  pub list : take i dst ++ many_get one w (n - i) (drop (at + i * w) s) ≡ many_get one w n (drop at s)

module _ {A : Type 0} {one : List ℕ → A} {w : ℕ} {s : List ℕ} {at n : ℕ} {dst : List A} where
  pub reading_starts : length dst ≡ n → Reading one w s at n dst 0
  reading_starts e =
      let z : n - 0 ≡ n = omega arith in
      let p : at + 0 * w ≡ at = omega arith in
      record { within = omega arith; long = e; list = rw (z, p) }

module _ {A : Type 0} {one : List ℕ → A} {w : ℕ} {s : List ℕ} {at n : ℕ} {dst : List A} {i : ℕ} (r : Reading one w s at n dst i) where
  pub reading_goes : i < n → {v : A} → v ≡ one (drop (at + i * w) s) → Reading one w s at n (set dst i v) (i + 1)
  unfolding many_get
  reading_goes h {v} e =
      let k : i < length dst = omega (arith, r.long) in
      let m : n - i ≡ suc (n - suc i) = omega arith in
      record {
        within = omega arith;
        long = length-set dst i v ∙ r.long;
        list = rw (next_at at i w, add-one i, take-suc-set dst i v k, e, append_assoc, ← drop-drop w (at + i * w) s) (rw m at r.list);
      }

  pub reading_ends : n ≤ i → dst ≡ many_get one w n (drop at s)
  unfolding many_get
  reading_ends h =
      let m : n - i ≡ 0 = omega arith in
      sym (append-nil dst) ∙ rw (m, take_all i dst (omega (arith, r.long))) at r.list

-- what n values of w bytes each are written as
pub puts_long : {A : Type 0} (one : A → List ℕ) (w : ℕ) → ((a : A) → length (one a) ≡ w) → (l : List A) → length (many_put one l) ≡ length l * w
unfolding many_put
puts_long one w h [] = omega arith
puts_long one w h (a ∷ l) = length-append (one a) (many_put one l) ∙ omega (arith, h a, puts_long one w h l, suc-mul (length l) w)

-- ---- writing: the values from index i on are still to be written
pub record Writing {A : Type 0} (one : A → List ℕ) (w : ℕ) (out₀ : List ℕ) (at : ℕ) (src : List A) (out : List ℕ) (i : ℕ) : Type 0 where
  pub long : length out ≡ length out₀
  pub list : over out (at + i * w) (many_put one (drop i src)) ≡ over out₀ at (many_put one src)

module _ {A : Type 0} {one : A → List ℕ} {w : ℕ} {out₀ : List ℕ} {at : ℕ} {src : List A} where
  pub writing_starts : Writing one w out₀ at src out₀ 0
  writing_starts =
      let p : at + 0 * w ≡ at = omega arith in
      record { long = refl; list = rw p }

module _ {A : Type 0} {one : A → List ℕ} {w : ℕ} {out₀ : List ℕ} {at : ℕ} {src : List A} {out : List ℕ} {i : ℕ} (r : Writing one w out₀ at src out i) where
  pub writing_goes : i < length src → at + length src * w ≤ length out₀ → {next : List ℕ} (z : A) → next ≡ over out (at + i * w) (one (get_or src i z)) →
      length (one (get_or src i z)) ≡ w → Writing one w out₀ at src next (i + 1)
  unfolding many_put
  writing_goes h room z e long =
      let within : at + i * w + w ≤ length out₀ = run_within at (length src) i w (length out₀) h room in
      let same : length out ≡ length out₀ = r.long in
      let p = at + i * w in
      let v = one (get_or src i z) in
      let q : at + (i + 1) * w ≡ p + length v = next_at at i w ∙ ap (λ (k : ℕ). p + k) (sym long) in
      record {
        long = ap length e ∙ over_long out p v (omega arith) ∙ r.long;
        list =
            rw (q, e, add-one i) (over_over out p v (many_put one (drop (suc i) src)) (omega arith))
            ∙ rw (drop-cons src i z h) at r.list;
      }

  pub writing_ends : ((a : A) → length (one a) ≡ w) → length src ≤ i → Wrote out₀ at (many_put one src) out (at + length src * w)
  unfolding many_put
  writing_ends long h =
      record {
        placed = ap (λ (n : ℕ). at + n) (sym (puts_long one w long src));
        list = sym (over_none out (at + i * w)) ∙ rw (drop_of_length-le src h) at r.list;
      }
