-- Laws of words copied from one list into another.
use Prim.Native.Nat.{ℕ, zero, suc, ◌+◌, ◌-◌, ◌≤◌, ◌<◌}
use mathlib.Core.Path.{◌≡◌, refl, ◌∙◌}
use mathlib.Core.Bool.{true}
use mathlib.Core.List.{List}
use native.Mathlib.Nat.{add-zero}
use native.Mathlib.Omega.{arith}
use lib.ListN.{length, set, get_or, length-set}
use lib.Seq.{get_or-set_same, get_or-set_other}
use Rattle.bits.specs.Ranges.{all_at_most}
use Rattle.bits.proofs.Ranges.{at_most_at, at_most_set}
use Rattle.bits.specs.Copies.{copied}

-- one turn of a loop that copies, and its end
pub copied_step : (n from to i : ℕ) (s l : List ℕ) → i < n →
    copied (n - i) (from + i) (to + i) s l ≡ copied (n - (i + 1)) (from + (i + 1)) (to + (i + 1)) s (set l (to + i) (get_or s (from + i) 0))
unfolding copied
copied_step n from to i s l h =
    let e : n - i ≡ suc (n - (i + 1)) = omega arith in
    let f : from + i + 1 ≡ from + (i + 1) = omega arith in
    let g : to + i + 1 ≡ to + (i + 1) = omega arith in
    rw (e, ← f, ← g)

pub copied_none : (n from to : ℕ) (s l : List ℕ) → n ≡ 0 → copied n from to s l ≡ l
unfolding copied
copied_none n from to s l h = rw h

pub copied_long : (n from to : ℕ) (s l : List ℕ) → length (copied n from to s l) ≡ length l
unfolding copied
copied_long zero from to s l = refl
copied_long (suc n) from to s l = copied_long n (from + 1) (to + 1) s (set l to (get_or s from 0)) ∙ length-set l to (get_or s from 0)

-- a place outside the copy is as it was
pub copied_before : (n from to : ℕ) (s l : List ℕ) (i : ℕ) → i < to → get_or (copied n from to s l) i 0 ≡ get_or l i 0
unfolding copied
copied_before zero from to s l i h = refl
copied_before (suc n) from to s l i h =
    copied_before n (from + 1) (to + 1) s (set l to (get_or s from 0)) i (omega arith)
    ∙ get_or-set_other l to i (get_or s from 0) 0 (λ e. omega arith)

pub copied_past : (n from to : ℕ) (s l : List ℕ) (i : ℕ) → to + n ≤ i → get_or (copied n from to s l) i 0 ≡ get_or l i 0
unfolding copied
copied_past zero from to s l i h = refl
copied_past (suc n) from to s l i h =
    copied_past n (from + 1) (to + 1) s (set l to (get_or s from 0)) i (omega arith)
    ∙ get_or-set_other l to i (get_or s from 0) 0 (λ e. omega arith)

-- a place in it has its word of s
pub copied_inside : (n from to : ℕ) (s l : List ℕ) (j : ℕ) → to + n ≤ length l → j < n →
    get_or (copied n from to s l) (to + j) 0 ≡ get_or s (from + j) 0
unfolding copied
copied_inside zero from to s l j h k = absurd (omega arith)
copied_inside (suc n) from to s l zero h k =
    let m : to < length l = omega arith in
    simp add-zero (copied_before n (from + 1) (to + 1) s (set l to (get_or s from 0)) to (omega arith) ∙ get_or-set_same l to (get_or s from 0) 0 m)
copied_inside (suc n) from to s l (suc j) h k =
    let e : to + suc j ≡ to + 1 + j = omega arith in
    let f : from + suc j ≡ from + 1 + j = omega arith in
    rw (e, f) (copied_inside n (from + 1) (to + 1) s (set l to (get_or s from 0)) j (rw length-set (omega arith)) (omega arith))

-- words in range, copied into a list in range
pub copied_at_most : (most n from to : ℕ) (s l : List ℕ) → all_at_most most s ≡ true → all_at_most most l ≡ true → all_at_most most (copied n from to s l) ≡ true
unfolding copied
copied_at_most most zero from to s l p q = q
copied_at_most most (suc n) from to s l p q =
    copied_at_most most n (from + 1) (to + 1) s (set l to (get_or s from 0)) p (at_most_set most l to (get_or s from 0) q (at_most_at most s from p))
