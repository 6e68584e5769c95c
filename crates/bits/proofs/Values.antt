-- Laws of lists by the value at each place.
use Prim.Native.Nat.{ℕ, zero, suc, ◌+◌, ◌-◌, ◌≤◌, ◌<◌}
use mathlib.Core.Path.{◌≡◌, refl, ap}
use mathlib.Core.List.{List, ◌++◌, append_assoc, append-nil}
use native.Mathlib.Nat.{add-zero, zero-add}
use native.Mathlib.Numerals.{add-one}
use native.Mathlib.Omega.{arith}
use lib.ListN.{length, set, get_or, take}
use lib.Seq.{take-suc-set, take-length}
use Rattle.bits.specs.Values.{values}

-- one turn of a loop that fills a list with values, and its end
pub fill_step : {A : Type 0} (f : ℕ → A) (l : List A) (n i : ℕ) (v : A) → v ≡ f i → i < n → length l ≡ n →
    take (i + 1) (set l i v) ++ values (i + 1) (n - (i + 1)) f ≡ take i l ++ values i (n - i) f
unfolding values
fill_step f l n i v p h e =
    let k : i < length l = omega arith in
    let m : n - i ≡ suc (n - (i + 1)) = omega arith in
    rw (m, add-one, take-suc-set l i v k, append_assoc, p)

pub fill_end : {A : Type 0} (f : ℕ → A) (l : List A) (n i : ℕ) → n ≤ i → i ≤ n → length l ≡ n → take i l ++ values i (n - i) f ≡ l
unfolding values
fill_end f l n i h k e =
    let m : n - i ≡ 0 = omega arith in
    let p : i ≡ length l = omega arith in
    rw (m, p, take-length, append-nil)

-- the value at each place
pub values_at : {A : Type 0} (f : ℕ → A) (d : A) (i n k : ℕ) → k < n → get_or (values i n f) k d ≡ f (i + k)
unfolding values
values_at f d i zero k h = absurd (omega arith)
values_at f d i (suc n) zero h = rw add-zero
values_at f d i (suc n) (suc k) h =
    let e : i + suc k ≡ i + 1 + k = omega arith in
    rw e (values_at f d (i + 1) n k (omega arith))

pub values_from_0 : {A : Type 0} (f : ℕ → A) (d : A) (n k : ℕ) → k < n → get_or (values 0 n f) k d ≡ f k
values_from_0 f d n k h = rw zero-add at (values_at f d 0 n k h)

pub values_long : {A : Type 0} (f : ℕ → A) (i n : ℕ) → length (values i n f) ≡ n
unfolding values
values_long f i zero = refl
values_long f i (suc n) = ap suc (values_long f (i + 1) n)

-- what holds of each value, and of what stands past the end, holds at each place
pub values_all : {A : Type 0} (P : A → Type 0) (f : ℕ → A) (d : A) (i n : ℕ) → P d → ((j : ℕ) → P (f j)) → (k : ℕ) → P (get_or (values i n f) k d)
unfolding values
values_all P f d i zero p q k = p
values_all P f d i (suc n) p q zero = q i
values_all P f d i (suc n) p q (suc k) = values_all P f d (i + 1) n p q k
