-- No two view rows share a storage row: the cover, as callers use it.
use Prim.Native.Nat.{ℕ, ◌<◌}
use mathlib.Core.Path.{◌≡◌, refl, sym, ap, ◌∙◌}
use mathlib.Core.Bool.{true, false}
use native.Mathlib.Omega.{arith}
use Rattle.dest.specs.declared.flags.Flags.{Flags}
use Rattle.dest.specs.declared.rows.View16Row.{View16Row}
use Rattle.dest.specs.declared.rows.View32Row.{View32Row}
use Rattle.dest.specs.declared.rows.StorageRow.{StorageRow}
use Rattle.dest.specs.Rows.{rows16, rows32, storage_rows, storage_row}
use Rattle.dest.specs.Maps.{storage16, high32, low32}
use Rattle.dest.specs.Cover.{Covers, Half, storage32}
use Rattle.dest.proofs.Covering.{views_cover}

-- places that are taken to one storage row are one place
pub apart : {A : Type 0} {In : A → Type 0} {map : A → StorageRow} → Covers In map →
    (a b : A) → In a → In b → (map a).0 ≡ (map b).0 → a ≡ b
apart {map = map} c a b i j e =
    let o = c.once (map b) (c.inside b j) in
    o.alone a i (ap storage_row e) ∙ sym (o.alone b j refl)

pub storage16_lt : (f : Flags) (r : View16Row) → r.0 < rows16 → (storage16 f r).0 < storage_rows
storage16_lt f r h = (views_cover.view16 f).inside r h

pub storage16_apart : (f : Flags) (r s : View16Row) → r.0 < rows16 → s.0 < rows16 → (storage16 f r).0 ≡ (storage16 f s).0 → r.0 ≡ s.0
storage16_apart f r s h k e = ap (λ (p : View16Row). p.0) (apart (views_cover.view16 f) r s h k e)

-- where halves of the 32-bit view lie at one storage row, they are the same half of the same row
halves_apart : (f : Flags) (a b : Half) → a.row.0 < rows32 → b.row.0 < rows32 → (storage32 f a).0 ≡ (storage32 f b).0 → a ≡ b
halves_apart f a b h k e = apart (views_cover.view32 f) a b h k e

pub high32_apart : (f : Flags) (r s : View32Row) → r.0 < rows32 → s.0 < rows32 → (high32 f r).0 ≡ (high32 f s).0 → r.0 ≡ s.0
high32_apart f r s h k e =
    ap (λ (p : Half). p.row.0) (halves_apart f (record { low = false; row = r }) (record { low = false; row = s }) h k e)

pub low32_apart : (f : Flags) (r s : View32Row) → r.0 < rows32 → s.0 < rows32 → (low32 f r).0 ≡ (low32 f s).0 → r.0 ≡ s.0
low32_apart f r s h k e =
    ap (λ (p : Half). p.row.0) (halves_apart f (record { low = true; row = r }) (record { low = true; row = s }) h k e)

-- of one row or of two
pub high_low_apart : (f : Flags) (r s : View32Row) → r.0 < rows32 → s.0 < rows32 → (high32 f r).0 ≡ (low32 f s).0 → ⊥
high_low_apart f r s h k e =
    let a : Half = record { low = false; row = r } in
    let b : Half = record { low = true; row = s } in
    let p : false ≡ true = ap (λ (p : Half). p.low) (halves_apart f a b h k e) in
    let z : ◌≡◌ {A = ℕ} 0 1 = cc in
    omega arith
