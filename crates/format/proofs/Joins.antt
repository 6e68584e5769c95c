-- Little-endian numbers that are read and written a byte at a time.
use Prim.Native.Nat.{ℕ, suc, ◌+◌, ◌*◌, ◌-◌, ◌/◌, ◌%◌, ◌^◌, ◌≤◌, ◌<◌}
use mathlib.Core.Path.{◌≡◌, sym, ap, ◌∙◌}
use mathlib.Core.List.{List, [], ◌∷◌, ◌++◌}
use native.Mathlib.Nat.{add-zero, lt_of_lt_of_le, pow-le-pow_right}
use native.Mathlib.Omega.{arith}
use lib.Dec.{lit<}
use lib.ListN.{length, get_or, drop, set, length-set, get_or-eq_default}
use lib.Seq.{get_or-drop}
use Rattle.bits.specs.Bytes.{enc, le, Bytes}
use Rattle.bits.specs.Overwrite.{over}
use Rattle.bits.proofs.Bytes.{bytes_drop, enc_long, le_lt, le_next}
use Rattle.bits.proofs.Overwrite.{over_set, over_then, over_over, over_none}

-- the byte at a place is the number of one byte, also past the end, where 0 is read
pub le_byte : (at : ℕ) (s : List ℕ) → get_or s at 0 ≡ le 1 (drop at s)
unfolding le
le_byte at s = sym (simp (get_or-drop, add-zero) (omega arith))

pub le_none : (at : ℕ) (s : List ℕ) → length s ≤ at → 0 ≡ le 1 (drop at s)
le_none at s h = sym (get_or-eq_default s 0 h) ∙ le_byte at s

-- ---- a loop that reads w bytes from the last down: it has read those from index i on
pub le_starts : (w : ℕ) (s : List ℕ) → 0 ≡ le (w - w) s
unfolding le
le_starts w s = let z : w - w ≡ 0 = omega arith in rw z

-- a turn, which stays within 32 bits
module _ (w at i : ℕ) (s : List ℕ) (b : Bytes s) (pos : 0 < i) (in_w : i ≤ w) (small : w ≤ 4) {v : ℕ} (e : v ≡ le (w - i) (drop (at + i) s)) where
  pub le_turn : v * 256 + get_or s (at + (i - 1)) 0 ≡ le (w - (i - 1)) (drop (at + (i - 1)) s)
  le_turn = omega (arith, le_next w at i s pos in_w)

  pub le_fits : v * 256 + get_or s (at + (i - 1)) 0 < 2 ^ 32
  le_fits =
      let few : w - (i - 1) ≤ 4 = omega arith in
      let most : 256 ^ (w - (i - 1)) ≤ 256 ^ 4 = pow-le-pow_right {n = 256} (lit< tt) few in
      rw le_turn (lt_of_lt_of_le (le_lt (w - (i - 1)) (drop (at + (i - 1)) s) (bytes_drop (at + (i - 1)) s b)) most)

-- ---- a loop that writes w bytes from the first up: those from index i on are still to be written
pub enc_turn : (w at i n : ℕ) (l : List ℕ) → i < w → at + w ≤ length l →
    over (set l (at + i) (n % 256)) (at + (i + 1)) (enc (w - (i + 1)) (n / 256)) ≡ over l (at + i) (enc (w - i) n)
unfolding enc
enc_turn w at i n l h room =
    let e : w - i ≡ suc (w - (i + 1)) = omega arith in
    let p : at + (i + 1) ≡ at + i + 1 = omega arith in
    rw (over_set l (at + i) (n % 256) (omega arith), e, p) (over_over l (at + i) (n % 256 ∷ []) (enc (w - (i + 1)) (n / 256)) (omega arith))

pub enc_ends : (w at i n : ℕ) (l : List ℕ) → w ≤ i → over l (at + i) (enc (w - i) n) ≡ l
unfolding enc
enc_ends w at i n l h = let e : w - i ≡ 0 = omega arith in rw e (over_none l (at + i))

-- ---- one byte, and two, that are stored where they are due
pub store_byte : (out : List ℕ) (at b : ℕ) → at < length out → b < 256 → set out at b ≡ over out at (enc 1 b)
unfolding enc
store_byte out at b h k =
    let e : b ≡ b % 256 = omega arith in
    ap (set out at) e ∙ over_set out at (b % 256) h

pub store_two : (out : List ℕ) (at a b : ℕ) → at + 2 ≤ length out → a < 256 → b < 256 → set (set out at a) (at + 1) b ≡ over out at (enc 1 a ++ enc 1 b)
store_two out at a b h j k =
    over_then out (set out at a) _ at (at + 1) (enc 1 a) (enc 1 b) (omega arith) (store_byte out at a (omega arith) j)
    (ap (λ (n : ℕ). at + n) (enc_long 1 a)) (store_byte (set out at a) (at + 1) b (simp length-set (omega arith)) k)
