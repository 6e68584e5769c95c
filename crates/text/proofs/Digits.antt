-- The loops over digits and bytes.
use Prim.Native.Nat.{ℕ, zero, suc, ◌+◌, ◌-◌, ◌/◌, ◌%◌, ◌≤◌, ◌<◌}
use mathlib.Core.Path.{◌≡◌, refl, sym, ap, ◌∙◌}
use mathlib.Core.List.{List, [], ◌∷◌, ◌++◌, append_assoc}
use native.Mathlib.Numerals.{add-one}
use native.Mathlib.Omega.{arith}
use lib.Dec.{ltb}
use lib.ListN.{length, drop, set, length-append}
use lib.Seq.{take-set-le, drop-cons, drop-set-lt, lt-length-set, get_or-set_same}
use borrow.Author.Tests.{lt-ltb, le-ltb}
use Rattle.bits.specs.Overwrite.{over}
use Rattle.bits.proofs.Choices.{cond_both}
use Rattle.bits.proofs.Overwrite.{over_none}
use Rattle.text.specs.Digits.{last_digits_in}
use Rattle.text.specs.Decimal.{digit_count, last_digits}
use Rattle.text.specs.Hex.{hex_digit, hex_digits, hex_word}

in_long : (base : ℕ) (byte : ℕ → ℕ) (k n : ℕ) → length (last_digits_in base byte k n) ≡ k
unfolding last_digits_in
in_long base byte zero n = refl
in_long base byte (suc k) n = length-append (last_digits_in base byte k (n / base)) _ ∙ rw (in_long base byte k (n / base)) (add-one k)

pub digits_long : (k n : ℕ) → length (last_digits k n) ≡ k
unfolding last_digits
digits_long zero n = refl
digits_long (suc k) n = length-append (last_digits k (n / 10)) _ ∙ rw (digits_long k (n / 10)) (add-one k)

pub hex_long : (w : ℕ) → length (hex_word w) ≡ hex_digits
unfolding hex_word
hex_long w = in_long 16 hex_digit hex_digits w

pub count_at_most : (k n : ℕ) → digit_count k n ≤ k
unfolding digit_count
count_at_most zero n = omega arith
count_at_most (suc k) n = let h = count_at_most k (n / 10) in cond_both (λ (x : ℕ). x ≤ suc k) (ltb n 10) (omega arith) (omega arith)

-- a loop that counts up to k: the number is below ten, or one digit more is there
pub count_last : (k i n : ℕ) → i < k → n < 10 → digit_count (k - i) n ≡ 1
unfolding digit_count
count_last k i n h l = let e : k - i ≡ suc (k - (i + 1)) = omega arith in rw e (simp (lt-ltb n 10 l))

pub count_more : (k i n : ℕ) → i < k → 10 ≤ n → digit_count (k - i) n ≡ 1 + digit_count (k - (i + 1)) (n / 10)
unfolding digit_count
count_more k i n h l = let e : k - i ≡ suc (k - (i + 1)) = omega arith in rw e (simp (le-ltb n 10 l))

pub count_none : (k i n : ℕ) → k ≤ i → digit_count (k - i) n ≡ 0
unfolding digit_count
count_none k i n h = let e : k - i ≡ 0 = omega arith in rw e

-- what is written past a list that is written over stays
over_before : {A : Type 0} (l : List A) (k : ℕ) (a : List A) (v : A) → k + length a < length l → over (set l (k + length a) v) k a ≡ over l k (a ++ (v ∷ []))
unfolding over
over_before l k a v h =
    let e : length (a ++ (v ∷ [])) ≡ length a + 1 = length-append a (v ∷ []) in
    let f : k + (length a + 1) ≡ suc (k + length a) = omega arith in
    let d : drop (k + length a) (set l (k + length a) v) ≡ v ∷ drop (suc (k + length a)) l =
    drop-cons (set l (k + length a) v) (k + length a) v (lt-length-set l (k + length a) v h)
    ∙ rw (get_or-set_same l (k + length a) v v h, drop-set-lt (suc (k + length a)) l (k + length a) v (omega arith)) in
    rw (take-set-le k l (k + length a) v (omega arith), d, e, f) (rw append_assoc)

-- a turn of the writing, from the last digit back
pub in_next : (base : ℕ) (byte : ℕ → ℕ) (l : List ℕ) (at left m : ℕ) → 0 < left → at + left ≤ length l →
    over (set l (at + (left - 1)) (byte (m % base))) at (last_digits_in base byte (left - 1) (m / base)) ≡ over l at (last_digits_in base byte left m)
unfolding last_digits_in
in_next base byte l at zero m h k = absurd (omega arith)
in_next base byte l at (suc left) m h k =
    let e : suc left - 1 ≡ left = omega arith in
    let ds = last_digits_in base byte left (m / base) in
    let n : length ds ≡ left = in_long base byte left (m / base) in
    let f : at + left ≡ at + length ds = ap (λ (x : ℕ). at + x) (sym n) in
    rw (e, f) (over_before l at ds (byte (m % base)) (omega arith))

-- where no digit is left
pub in_none : (base : ℕ) (byte : ℕ → ℕ) (l : List ℕ) (at left n : ℕ) → left ≡ 0 → over l at (last_digits_in base byte left n) ≡ l
unfolding last_digits_in
in_none base byte l at left n e = rw e (over_none l at)

-- the last digits in base 10
pub decimal_digits : (k n : ℕ) → last_digits_in 10 hex_digit k n ≡ last_digits k n
unfolding last_digits_in last_digits hex_digit
decimal_digits zero n = refl
decimal_digits (suc k) n =
    let h : n % 10 < 10 = omega arith in
    rw (lt-ltb (n % 10) 10 h, decimal_digits k (n / 10))
