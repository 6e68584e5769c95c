-- Each view covers every storage row exactly once: its map has an inverse, as tests show that antt computes at all rows.
use Prim.Native.Nat.{ℕ, ◌+◌, ◌*◌, ◌^◌, ◌<◌}
use mathlib.Core.Path.{◌≡◌, refl, sym, ap, ◌∙◌}
use mathlib.Core.Bool.{Bool, true, false, beq, ◌&&◌}
use lib.Dec.{eqb, ltb}
use borrow.Author.Tests.{eqb-true, ltb-true}
use Rattle.bits.specs.Field.{field, flag}
use Rattle.bits.proofs.Choices.{and_left, and_right}
use Rattle.dest.specs.declared.flags.Flags.{Flags}
use Rattle.dest.specs.declared.rows.View16Row.{View16Row}
use Rattle.dest.specs.declared.rows.StorageRow.{StorageRow}
use Rattle.dest.specs.Rows.{rows16, rows32, storage_rows, view16, view32, storage_row}
use Rattle.dest.specs.Flags.{flags}
use Rattle.dest.specs.Maps.{remapped, swizzled, spread, after_remap, after_swizzle, storage16, high32, low32}
use Rattle.dest.specs.Cover.{Covers, Half, In16View, In32View, storage32, ViewsCover}
use Rattle.dest.proofs.Tests.{below, below_at, beq_true}

-- an inverse makes a cover
covers_by : {A : Type 0} {In : A → Type 0} {map : A → StorageRow} (back : StorageRow → A) →
    ((a : A) → In a → ((map a).0 < storage_rows) × (back (map a) ≡ a)) →
    ((q : StorageRow) → q.0 < storage_rows → In (back q) × (map (back q) ≡ q)) → Covers In map
covers_by back left right =
    record {
      inside = λ a i. (left a i).0;
      once = λ q h. record { place = back q; within = (right q h).0; there = (right q h).1; alone = λ a i e. sym (left a i).1 ∙ ap back e };
    }

-- a is below n, and b is k
in_at : ℕ → ℕ → ℕ → ℕ → Bool
in_at a n b k = ltb a n && eqb b k

in_at_lem : (a n b k : ℕ) → in_at a n b k ≡ true → (a < n) × (b ≡ k)
unfolding in_at
in_at_lem a n b k t = (ltb-true a n (and_left (ltb a n) (eqb b k) t), eqb-true b k (and_right (ltb a n) (eqb b k) t))

-- the 16-bit view: three remaps are none
back16 : Flags → StorageRow → View16Row
back16 f q = view16 (after_remap f (after_remap f q.0))

thrice : Flags → ℕ → Bool
thrice f r = in_at (after_remap f r) rows16 (after_remap f (after_remap f (after_remap f r))) r

tested_16 : (m z : Bool) → below (thrice (flags m z)) rows16 ≡ true
unfolding in_at thrice remapped
tested_16 true z = refl
tested_16 false z = refl

thrice_at : (f : Flags) (r : ℕ) → r < rows16 → (after_remap f r < rows16) × (after_remap f (after_remap f (after_remap f r)) ≡ r)
unfolding thrice
thrice_at f r h = in_at_lem _ _ _ _ (below_at (thrice f) rows16 r (tested_16 f.remap f.swizzle) h)

covers16 : (f : Flags) → Covers In16View (storage16 f)
unfolding back16 storage16
covers16 f =
    covers_by (back16 f) (λ r h. ((thrice_at f r.0 h).0, ap view16 (thrice_at f r.0 h).1))
    (λ q h. ((thrice_at f (after_remap f q.0) (thrice_at f q.0 h).0).0, ap storage_row (thrice_at f q.0 h).1))

-- the 32-bit view: the row of which a half lies at q has bits 4–9 moved down by one, and then the maps undone, since four
-- swizzles are none; bit 3 tells the half
row_at : Flags → ℕ → ℕ
row_at f q =
    let r = field 4 6 q * 2 ^ 3 + field 0 3 q in
    after_remap f (after_remap f (after_swizzle f (after_swizzle f (after_swizzle f r))))

back32 : Flags → StorageRow → Half
back32 f q = record { low = flag 3 q.0; row = view32 (row_at f q.0) }

left : Flags → Bool → ℕ → Bool
left f l r =
    let q = (storage32 f (record { low = l; row = view32 r })).0 in
    beq (flag 3 q) l && in_at q storage_rows (row_at f q) r

right : Flags → ℕ → Bool
right f q = in_at (row_at f q) rows32 (storage32 f (back32 f (storage_row q))).0 q

tested_left : (m z l : Bool) → below (left (flags m z) l) rows32 ≡ true
unfolding left in_at row_at high32 low32 spread remapped swizzled
tested_left true true true = refl
tested_left true true false = refl
tested_left true false true = refl
tested_left true false false = refl
tested_left false true true = refl
tested_left false true false = refl
tested_left false false true = refl
tested_left false false false = refl

tested_right : (m z : Bool) → below (right (flags m z)) storage_rows ≡ true
unfolding right in_at row_at back32 high32 low32 spread remapped swizzled
tested_right true true = refl
tested_right true false = refl
tested_right false true = refl
tested_right false false = refl

left_at : (f : Flags) (h : Half) → In32View h → ((storage32 f h).0 < storage_rows) × (back32 f (storage32 f h) ≡ h)
unfolding left back32
left_at f h i =
    let q = (storage32 f h).0 in
    let same = beq (flag 3 q) h.low in
    let found = in_at q storage_rows (row_at f q) h.row.0 in
    let t = below_at (left f h.low) rows32 h.row.0 (tested_left f.remap f.swizzle h.low) i in
    let e = beq_true _ _ (and_left same found t) in
    let p = in_at_lem _ _ _ _ (and_right same found t) in
    (p.0, λ k. record { low = e k; row = view32 (p.1 k) })

right_at : (f : Flags) (q : StorageRow) → q.0 < storage_rows → In32View (back32 f q) × (storage32 f (back32 f q) ≡ q)
unfolding right back32
right_at f q h =
    let p = in_at_lem _ _ _ _ (below_at (right f) storage_rows q.0 (tested_right f.remap f.swizzle) h) in
    (p.0, ap storage_row p.1)

pub views_cover : ViewsCover
views_cover = record { view16 = covers16; view32 = λ f. covers_by (back32 f) (left_at f) (right_at f) }
