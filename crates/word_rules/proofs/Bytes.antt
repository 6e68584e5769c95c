-- Laws of RMWCIB's merged byte, over the byte's number.
use Prim.Native.Nat.{ℕ, zero, suc, ◌+◌, ◌-◌, ◌*◌, ◌/◌, ◌%◌, ◌^◌, ◌≤◌, ◌<◌}
use mathlib.Core.Path.{◌≡◌}
use native.Mathlib.Nat.{pow-suc, add-mul, mul_comm, mul_assoc, div-div-eq-div-mul, one-le-pow}
use native.Mathlib.Numerals.{add-one}
use native.Mathlib.Omega.{arith}
use lib.Bits.{bit_and, and_le_l, and_le_r, or_lt}
use lib.Dec.{lit<}
use Rattle.bits.specs.Field.{with_byte}
use Rattle.word_rules.specs.ConfigWords.{merged, byte_of, with_merged}

-- a byte counts for at least 1
pub byte_unit_positive : (k : ℕ) → 0 < 256 ^ k
byte_unit_positive k = one-le-pow k 256 (lit< tt)

-- the bytes from k on, with the lowest of them replaced, and the bytes below
pub with_byte_lem : (k b x : ℕ) → (x / 256 ^ k / 256 * 256 + b) * 256 ^ k + x % 256 ^ k ≡ with_byte k b x
unfolding with_byte
with_byte_lem k b x =
    rw (add-one, pow-suc, ← div-div-eq-div-mul, mul_comm (256 ^ k) 256, ← mul_assoc, add-mul)

-- one of four bytes replaced keeps a word a word
pub with_byte_at_most : (k b x : ℕ) → k < 4 → b ≤ 255 → x ≤ 4294967295 → with_byte k b x ≤ 4294967295
unfolding with_byte
with_byte_at_most zero b x h i j = omega arith
with_byte_at_most (suc zero) b x h i j = omega arith
with_byte_at_most (suc (suc zero)) b x h i j = omega arith
with_byte_at_most (suc (suc (suc zero))) b x h i j = omega arith
with_byte_at_most (suc (suc (suc (suc k)))) b x h i j = absurd (omega arith)

-- so the sum by which the code makes it fits
pub with_byte_fits : (k b x : ℕ) → k < 4 → b ≤ 255 → x ≤ 4294967295 → (x / 256 ^ k / 256 * 256 + b) * 256 ^ k + x % 256 ^ k ≤ 4294967295
with_byte_fits k b x h i j = rw (with_byte_lem k b x) (with_byte_at_most k b x h i j)

-- a merged byte is a byte
pub merged_at_most : (mask value old : ℕ) → mask ≤ 255 → value ≤ 255 → old ≤ 255 → merged mask value old ≤ 255
merged_at_most mask value old h i j =
    let a = bit_and value mask in
    let b = bit_and old (255 - mask) in
    omega (arith, or_lt 8 a b (omega (arith, and_le_r value mask)) (omega (arith, and_le_l old (255 - mask))))

pub with_merged_at_most : (k mask value x : ℕ) → k < 4 → mask ≤ 255 → value ≤ 255 → x ≤ 4294967295 → with_merged k mask value x ≤ 4294967295
with_merged_at_most k mask value x h i j l =
    with_byte_at_most k (merged mask value (byte_of k x)) x h (merged_at_most mask value (byte_of k x) i j (omega arith)) l
