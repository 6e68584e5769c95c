-- Laws of rows in a store: what is read where a row was written, and elsewhere.
use Prim.Native.Nat.{ℕ, ◌+◌, ◌*◌, ◌-◌, ◌≤◌, ◌<◌}
use mathlib.Core.List.{List, ◌++◌, append_assoc}
use mathlib.Core.Path.{◌≡◌, refl, sym, ◌∙◌}
use native.Mathlib.Decide.{dec_lt}
use native.Mathlib.Omega.{arith}
use lib.ListN.{length, take, drop, length-take, length-drop, length-append, take-append-drop}
use lib.Seq.{take_at, drop_at, take-append-le, drop-append-le, drop-drop, length-take-le}
use Rattle.bits.specs.Overwrite.{over}
use Rattle.machine.specs.Sizes.{row_cells}

pub part_long : {A : Type 0} (l : List A) (p n : ℕ) → p + n ≤ length l → length (take n (drop p l)) ≡ n
part_long l p n h = length-take-le n (drop p l) (rw length-drop (omega arith))

module _ {A : Type 0} (l : List A) (p : ℕ) (vs : List A) (h : p + length vs ≤ length l) where
  -- what was written
  part_same : take (length vs) (drop p (over l p vs)) ≡ vs
  unfolding over
  part_same =
      let d = drop (p + length vs) l in
      rw (drop_at (take p l) (vs ++ d) p (length-take-le p l (omega arith))) (take_at vs d (length vs) refl)

  -- what lies before it
  part_before : (q n : ℕ) → q + n ≤ p → take n (drop q (over l p vs)) ≡ take n (drop q l)
  unfolding over
  part_before q n k = front (vs ++ drop (p + length vs) l) ∙ sym (front (drop p l)) ∙ rw (take-append-drop p l)
    where
      front : (x : List A) → take n (drop q (take p l ++ x)) ≡ take n (drop q (take p l))
      front x =
          let long : length (take p l) ≡ p = length-take-le p l (omega arith) in
          let m : q ≤ length (take p l) = omega arith in
          rw (drop-append-le q (take p l) x m) (take-append-le n (drop q (take p l)) x (rw length-drop (omega arith)))

  -- what lies after it
  part_after : (q n : ℕ) → p + length vs ≤ q → take n (drop q (over l p vs)) ≡ take n (drop q l)
  unfolding over
  part_after q n k =
      let e : q ≡ p + length vs + (q - (p + length vs)) = omega arith in
      let d = drop (p + length vs) l in
      let long : length (take p l ++ vs) ≡ p + length vs = simp (length-append, length-take) (omega arith) in
      rw (e, ← drop-drop, ← append_assoc, drop_at (take p l ++ vs) d (p + length vs) long) (rw drop-drop)

-- rows of sixteen: the row that was written, and any other
module _ {A : Type 0} (l : List A) (q : ℕ) (vs : List A) (long : length vs ≡ row_cells) (h : q * row_cells + row_cells ≤ length l) where
  fits : q * row_cells + length vs ≤ length l
  fits = omega arith

  pub row_same : take row_cells (drop (q * row_cells) (over l (q * row_cells) vs)) ≡ vs
  row_same = rw long at (part_same l (q * row_cells) vs fits)

  pub row_other : (r : ℕ) → (r ≡ q → ⊥) → take row_cells (drop (r * row_cells) (over l (q * row_cells) vs)) ≡ take row_cells (drop (r * row_cells) l)
  row_other r n =
      elim (dec_lt r q) [
        | yes k ↦ part_before l (q * row_cells) vs fits (r * row_cells) row_cells (omega arith)
        | no g ↦
            let k : q < r = elim (dec_lt q r) [ yes m ↦ m | no m ↦ absurd (n (omega (arith, g, m))) ] in
            part_after l (q * row_cells) vs fits (r * row_cells) row_cells (omega arith)
      ]
