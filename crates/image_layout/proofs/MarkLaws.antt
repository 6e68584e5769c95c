-- Laws of marks, eight to a byte.
use Prim.Native.Nat.{ℕ, zero, suc, ◌+◌, ◌*◌, ◌-◌, ◌/◌, ◌%◌, ◌^◌, ◌≤◌, ◌<◌}
use mathlib.Core.Path.{◌≡◌, refl, sym, ap, ap₂, ◌∙◌}
use mathlib.Core.Bool.{Bool, true, false}
use mathlib.Core.List.{List, [], ◌∷◌, ◌++◌}
use native.Mathlib.Nat.{pow-suc, suc-mul, mul_comm, div-one, div-div-eq-div-mul, lt_of_lt_of_le, pow-le-pow_right}
use native.Mathlib.Omega.{arith}
use lib.Dec.{eqb, ltb, lit<}
use lib.ListN.{length, take, drop, get_or, set, length-append, length-drop, take-append-drop, get_or-append}
use lib.Seq.{length-take-le, take_at, drop_at, drop-cons, drop-drop, get_or-drop, get_or-append-add}
use borrow.Author.Tests.{eq-eqb, ne_eqb, ltb-true, ltb-false}
use Rattle.bits.specs.Field.{low_bit, flag}
use Rattle.bits.specs.Bytes.{le}
use Rattle.bits.specs.Overwrite.{over}
use Rattle.bits.proofs.Overwrite.{over_set, over_over}
use Rattle.format.specs.Format.{num, many, many_get, many_ok}
use Rattle.format.proofs.Joins.{le_byte}
use Rattle.format.proofs.Lawful.{Lawful, num_lawful, many_lawful, via_on_lawful}
use Rattle.image_layout.specs.Marks.{bit, pack, unpack, eight, eights, joined_eights, marks_format}

-- ---- k marks as a number
pub unpack_long : (k n : ℕ) → length (unpack k n) ≡ k
unfolding unpack
unpack_long zero n = refl
unpack_long (suc k) n = ap suc (unpack_long k (n / 2))

unpack_pack : (k : ℕ) (l : List Bool) → length l ≡ k → unpack k (pack k l) ≡ l
unfolding unpack pack
unpack_pack zero [] e = refl
unpack_pack zero (b ∷ l) e = absurd (omega arith)
unpack_pack (suc k) [] e = absurd (omega arith)
unpack_pack (suc k) (b ∷ l) e =
    ap₂ (λ (b : Bool) (r : List Bool). b ∷ r) (low b (pack k l)) (ap (unpack k) (half b (pack k l)) ∙ unpack_pack k l (omega arith))
  where
    low : (b : Bool) (n : ℕ) → low_bit (bit b + 2 * n) ≡ b
    low true n = eq-eqb ((1 + 2 * n) % 2) 1 (omega arith)
    low false n = ne_eqb ((0 + 2 * n) % 2) 1 (λ z. omega arith)

    half : (b : Bool) (n : ℕ) → (bit b + 2 * n) / 2 ≡ n
    half true n = omega arith
    half false n = omega arith

bit_low : (m : ℕ) → m < 2 → bit (eqb m 1) ≡ m
bit_low zero h = refl
bit_low (suc zero) h = refl
bit_low (suc (suc m)) h = absurd (omega arith)

pack_unpack : (k n : ℕ) → n < 2 ^ k → pack k (unpack k n) ≡ n
unfolding unpack pack
pack_unpack zero n h = omega arith
pack_unpack (suc k) n h =
    let e : n < 2 ^ k * 2 = rw (← pow-suc 2 k) h in
    omega (arith, bit_low (n % 2) (omega arith), pack_unpack k (n / 2) (omega arith))

bit_lt : (b : Bool) → bit b < 2
bit_lt true = lit< tt
bit_lt false = lit< tt

pub pack_lt : (k : ℕ) (l : List Bool) → pack k l < 2 ^ k
unfolding pack
pack_lt zero l = lit< tt
pack_lt (suc k) [] = rw (pow-suc 2 k) (omega (arith, pack_lt k []))
pack_lt (suc k) (b ∷ l) = rw (pow-suc 2 k) (omega (arith, bit_lt b, pack_lt k l))

-- seven marks or fewer leave room for one more in a byte
pub pack_small : (k : ℕ) (l : List Bool) → k ≤ 7 → pack k l < 128
pack_small k l h = lt_of_lt_of_le (pack_lt k l) (pow-le-pow_right {n = 2} (lit< tt) h)

-- only the first k count
pub pack_take : (k : ℕ) (l : List Bool) → pack k (take k l) ≡ pack k l
unfolding pack
pack_take zero l = refl
pack_take (suc k) [] = refl
pack_take (suc k) (b ∷ l) = ap (λ (n : ℕ). bit b + 2 * n) (pack_take k l)

-- a turn of a loop that packs from the last of k marks down
pub pack_next : (k at i : ℕ) (l : List Bool) → 0 < i → i ≤ k → at + k ≤ length l →
    pack (k - (i - 1)) (drop (at + (i - 1)) l) ≡ bit (get_or l (at + (i - 1)) false) + 2 * pack (k - i) (drop (at + i) l)
unfolding pack
pack_next k at i l h j room =
    let e : k - (i - 1) ≡ suc (k - i) = omega arith in
    let f : suc (at + (i - 1)) ≡ at + i = omega arith in
    let here : at + (i - 1) < length l = omega arith in
    rw (e, drop-cons l (at + (i - 1)) false here, f)

-- a turn of a loop that stores k marks
pub unpack_next : (k at i n : ℕ) (l : List Bool) → i < k → at + k ≤ length l →
    over (set l (at + i) (low_bit n)) (at + (i + 1)) (unpack (k - (i + 1)) (n / 2)) ≡ over l (at + i) (unpack (k - i) n)
unfolding unpack
unpack_next k at i n l h room =
    let e : k - i ≡ suc (k - (i + 1)) = omega arith in
    let f : at + (i + 1) ≡ at + i + 1 = omega arith in
    rw (e, f, over_set l (at + i) (low_bit n) (omega arith))
    (over_over l (at + i) (low_bit n ∷ []) (unpack (k - (i + 1)) (n / 2)) (omega arith))

pub eight_lawful : Lawful eight
eight_lawful =
    via_on_lawful (λ l. length l ≡ 8) (unpack 8) (pack 8) (num 1 0 255) (num_lawful 1 0 255 (lit< tt) (lit< tt)) (λ l ok. unpack_pack 8 l ok.0)
    (λ n ok. pack_unpack 8 n (omega arith))
    (λ n ok. unpack_long 8 n)

-- ---- n lists of eight
pub eights_long : (n : ℕ) (l : List Bool) → length (eights n l) ≡ n
unfolding eights
eights_long zero l = refl
eights_long (suc n) l = ap suc (eights_long n (drop 8 l))

pub eights_at : (n i : ℕ) (l : List Bool) → i < n → get_or (eights n l) i [] ≡ take 8 (drop (8 * i) l)
unfolding eights
eights_at zero i l h = absurd (omega arith)
eights_at (suc n) zero l h = refl
eights_at (suc n) (suc i) l h =
    let e : 8 + 8 * i ≡ 8 * suc i = omega arith in
    eights_at n i (drop 8 l) (omega arith) ∙ ap (take 8) (drop-drop (8 * i) 8 l ∙ ap (λ (k : ℕ). drop k l) e)

pub eight_at : (n i : ℕ) (l : List Bool) → i < n → pack 8 (drop (8 * i) l) ≡ pack 8 (get_or (eights n l) i [])
eight_at n i l h = sym (pack_take 8 (drop (8 * i) l)) ∙ ap (pack 8) (sym (eights_at n i l h))

eights_back : (n : ℕ) (l : List Bool) → length l ≡ n * 8 → joined_eights (eights n l) ≡ l
unfolding joined_eights eights
eights_back zero [] e = refl
eights_back zero (b ∷ l) e = absurd (omega arith)
eights_back (suc n) l e =
    ap (λ (r : List Bool). take 8 l ++ r) (eights_back n (drop 8 l) (length-drop 8 l ∙ omega (arith, suc-mul n 8))) ∙ take-append-drop 8 l

eights_joined : (n : ℕ) (ls : List (List Bool)) → many_ok eight.Ok n ls → eights n (joined_eights ls) ≡ ls
unfolding joined_eights eights many_ok
eights_joined zero [] ok = refl
eights_joined zero (x ∷ ls) ok = absurd ok
eights_joined (suc n) [] ok = absurd ok
eights_joined (suc n) (x ∷ ls) ok =
    ap₂ (λ (a : List Bool) (r : List (List Bool)). a ∷ r) (take_at x (joined_eights ls) 8 ok.0.0)
    (ap (eights n) (drop_at x (joined_eights ls) 8 ok.0.0) ∙ eights_joined n ls ok.1)

joined_long : (n : ℕ) (ls : List (List Bool)) → many_ok eight.Ok n ls → length (joined_eights ls) ≡ n * 8
unfolding joined_eights many_ok
joined_long zero [] ok = refl
joined_long zero (x ∷ ls) ok = absurd ok
joined_long (suc n) [] ok = absurd ok
joined_long (suc n) (x ∷ ls) ok = length-append x (joined_eights ls) ∙ omega (arith, ok.0.0, joined_long n ls ok.1, suc-mul n 8)

pub marks_lawful : (n : ℕ) → Lawful (marks_format n)
marks_lawful n =
    via_on_lawful (λ l. length l ≡ n * 8) joined_eights (eights n) (many n eight) (many_lawful n eight eight_lawful)
    (λ l ok. eights_back n l ok.0) (eights_joined n) (joined_long n)

-- marks of the right number can be written
eights_ok : (n : ℕ) (l : List Bool) → length l ≡ n * 8 → many_ok eight.Ok n (eights n l)
unfolding eights many_ok
eights_ok zero l e = tt
eights_ok (suc n) l e =
    let size : length l ≡ n * 8 + 8 = e ∙ suc-mul n 8 in
    ((length-take-le 8 l (omega arith), (omega arith, omega (arith, pack_lt 8 (take 8 l)))), eights_ok n (drop 8 l) (length-drop 8 l ∙ omega arith))

pub marks_ok : (n : ℕ) (l : List Bool) → length l ≡ n * 8 → (marks_format n).Ok l
marks_ok n l e = (e, eights_ok n l e)

-- ---- a loop that reads n bytes of marks
abbrev pub marks_of : ℕ → List ℕ → List Bool
marks_of n bs = joined_eights (many_get eight.get 1 n bs)

pub marks_long : (n : ℕ) (bs : List ℕ) → length (marks_of n bs) ≡ n * 8
unfolding joined_eights many_get
marks_long zero bs = refl
marks_long (suc n) bs =
    length-append (eight.get bs) (marks_of n (drop 1 bs)) ∙ omega (arith, unpack_long 8 (le 1 bs), marks_long n (drop 1 bs), suc-mul n 8)

pub marks_next : (n at i : ℕ) (s : List ℕ) (m next : List Bool) → i < n → n * 8 ≤ length m → next ≡ over m (8 * i) (unpack 8 (get_or s (at + i) 0)) →
    over next (8 * (i + 1)) (marks_of (n - (i + 1)) (drop (at + (i + 1)) s)) ≡ over m (8 * i) (marks_of (n - i) (drop (at + i) s))
unfolding joined_eights many_get
marks_next n at i s m next h room e =
    let k : n - i ≡ suc (n - (i + 1)) = omega arith in
    let f : at + i + 1 ≡ at + (i + 1) = omega arith in
    let v = unpack 8 (get_or s (at + i) 0) in
    let g : 8 * i + length v ≡ 8 * (i + 1) = omega (arith, unpack_long 8 (get_or s (at + i) 0)) in
    rw (k, drop-drop 1 (at + i) s, f, e, ← g, ← le_byte (at + i) s) (over_over m (8 * i) v _ (omega arith))

-- ---- row r's mark is bit r mod 8 of byte r / 8
unpack_at : (k j n : ℕ) → j < k → get_or (unpack k n) j false ≡ flag j n
unfolding unpack
unpack_at zero j n h = absurd (omega arith)
unpack_at (suc k) zero n h = ap (λ (m : ℕ). eqb (m % 2) 1) (sym (div-one n))
unpack_at (suc k) (suc j) n h =
    let e : 2 * 2 ^ j ≡ 2 ^ suc j = mul_comm 2 (2 ^ j) ∙ sym (pow-suc 2 j) in
    unpack_at k j (n / 2) (omega arith) ∙ ap (λ (m : ℕ). eqb (m % 2) 1) (div-div-eq-div-mul n 2 (2 ^ j) ∙ ap (λ (m : ℕ). n / m) e)

pub mark_at : (n r : ℕ) (bs : List ℕ) → r < n * 8 → get_or (marks_of n bs) r false ≡ flag (r % 8) (get_or bs (r / 8) 0)
unfolding joined_eights many_get
mark_at zero r bs h = absurd (omega arith)
mark_at (suc n) r bs h = go (λ q k. mark_at n q (drop 1 bs) k) (ltb r 8) refl
  where
    go : ((q : ℕ) → q < n * 8 → get_or (marks_of n (drop 1 bs)) q false ≡ flag (q % 8) (get_or (drop 1 bs) (q / 8) 0)) → (t : Bool) → ltb r 8 ≡ t →
        get_or (eight.get bs ++ marks_of n (drop 1 bs)) r false ≡ flag (r % 8) (get_or bs (r / 8) 0)
    go later true e =
        let small : r < 8 = ltb-true r 8 e in
        let bit : r ≡ r % 8 = omega arith in
        let byte : 0 ≡ r / 8 = omega arith in
        get_or-append (eight.get bs) (marks_of n (drop 1 bs)) false r (omega (arith, unpack_long 8 (le 1 bs)))
        ∙ unpack_at 8 r (le 1 bs) small
        ∙ ap₂ (λ (k j : ℕ). flag k j) bit (sym (le_byte 0 bs) ∙ ap (λ (k : ℕ). get_or bs k 0) byte)
    go later false e =
        let large : 8 ≤ r = ltb-false r 8 e in
        let q = r - 8 in
        let here : r ≡ length (eight.get bs) + q = omega (arith, unpack_long 8 (le 1 bs)) in
        let bit : q % 8 ≡ r % 8 = omega arith in
        let byte : 1 + q / 8 ≡ r / 8 = omega arith in
        ap (λ (k : ℕ). get_or (eight.get bs ++ marks_of n (drop 1 bs)) k false) here
        ∙ get_or-append-add (eight.get bs) (marks_of n (drop 1 bs)) q false
        ∙ later q (omega (arith, suc-mul n 8))
        ∙ ap₂ (λ (k j : ℕ). flag k j) bit (get_or-drop 1 bs (q / 8) 0 ∙ ap (λ (k : ℕ). get_or bs k 0) byte)
