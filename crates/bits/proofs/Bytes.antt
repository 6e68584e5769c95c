-- Laws of little-endian numbers, over the width.
use Prim.Native.Nat.{ℕ, zero, suc, ◌+◌, ◌*◌, ◌-◌, ◌/◌, ◌%◌, ◌^◌, ◌≤◌, ◌<◌}
use mathlib.Core.Path.{◌≡◌, refl, ap}
use mathlib.Core.List.{List, [], ◌∷◌, ◌++◌}
use native.Mathlib.Nat.{add-zero, pow-suc, lt_of_lt_of_le, pow-le-pow_right}
use native.Mathlib.Omega.{arith}
use lib.Dec.{lit<}
use lib.ListN.{length, drop, get_or}
use lib.Seq.{get_or-drop, drop-drop}
use Rattle.bits.specs.Bytes.{enc, le, Bytes}

pub bytes_drop : (n : ℕ) (bs : List ℕ) → Bytes bs → Bytes (drop n bs)
bytes_drop n bs h i = rw get_or-drop (h (n + i))

pub enc_long : (w n : ℕ) → length (enc w n) ≡ w
unfolding enc
enc_long zero n = refl
enc_long (suc w) n = ap suc (enc_long w (n / 256))

-- reading what was written
pub le_enc : (w n : ℕ) (rest : List ℕ) → n < 256 ^ w → le w (enc w n ++ rest) ≡ n
unfolding enc le
le_enc zero n rest h = omega arith
le_enc (suc w) n rest h =
    let k : n < 256 ^ w * 256 = rw (← pow-suc 256 w) h in
    omega (arith, le_enc w (n / 256) rest (omega arith))

-- writing what was read
pub enc_le : (w : ℕ) (bs : List ℕ) → Bytes bs → w ≤ length bs → enc w (le w bs) ++ drop w bs ≡ bs
unfolding enc le
enc_le zero bs b h = refl
enc_le (suc w) [] b h = absurd (omega arith)
enc_le (suc w) (x ∷ bs) b h =
    let low : (x + 256 * le w bs) % 256 ≡ x = omega (arith, b 0) in
    let high : (x + 256 * le w bs) / 256 ≡ le w bs = omega (arith, b 0) in
    rw (low, high) (ap (λ (l : List ℕ). x ∷ l) (enc_le w bs (λ i. b (suc i)) (omega arith)))

-- w bytes hold a number below 256 ^ w
pub le_lt : (w : ℕ) (bs : List ℕ) → Bytes bs → le w bs < 256 ^ w
unfolding le
le_lt zero bs b = lit< tt
le_lt (suc w) bs b =
    rw (pow-suc 256 w)
    (omega (arith, b 0, le_lt w (drop 1 bs) (bytes_drop 1 bs b)))

-- three bytes or fewer leave room for one more in 32 bits
pub le_small : (w : ℕ) (bs : List ℕ) → Bytes bs → w ≤ 3 → le w bs < 16777216
le_small w bs b h = lt_of_lt_of_le (le_lt w bs b) (pow-le-pow_right {n = 256} (lit< tt) h)

-- one byte more in front: a turn of a loop that reads from the last byte down
pub le_next : (w at i : ℕ) (s : List ℕ) → 0 < i → i ≤ w →
    le (w - (i - 1)) (drop (at + (i - 1)) s) ≡ get_or s (at + (i - 1)) 0 + 256 * le (w - i) (drop (at + i) s)
unfolding le
le_next w at i s h k =
    let e : w - (i - 1) ≡ suc (w - i) = omega arith in
    let f : at + (i - 1) + 1 ≡ at + i = omega arith in
    rw (e, get_or-drop, drop-drop, f, add-zero)
