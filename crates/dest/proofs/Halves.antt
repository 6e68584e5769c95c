-- A view row lies in its own half of storage, in every setting: remap moves bits below 6 only, swizzle bits below 4.
use Prim.Native.Nat.{ℕ, ◌+◌, ◌/◌, ◌%◌, ◌<◌}
use mathlib.Core.Path.{◌≡◌, refl}
use native.Mathlib.Omega.{arith}
use Rattle.bits.proofs.Choices.{cond_both}
use Rattle.dest.specs.declared.flags.Flags.{Flags}
use Rattle.dest.specs.declared.rows.View16Row.{View16Row}
use Rattle.dest.specs.declared.rows.View32Row.{View32Row}
use Rattle.dest.specs.Rows.{rows32}
use Rattle.dest.specs.Maps.{remapped, swizzled, spread, after_remap, after_swizzle, storage16, high32, low32}
use Rattle.dest.proofs.Bounds.{crossed_lt}

remap_above : (f : Flags) (r : ℕ) → after_remap f r / 64 ≡ r / 64
unfolding remapped
remap_above f r = cond_both (λ (m : ℕ). m / 64 ≡ r / 64) f.remap (omega arith) refl

swizzle_above : (f : Flags) (r : ℕ) → after_swizzle f r / 16 ≡ r / 16
unfolding swizzled
swizzle_above f r = cond_both (λ (m : ℕ). m / 16 ≡ r / 16) f.swizzle (omega (arith, crossed_lt r)) refl

-- bit 8 becomes bit 9, and bit 3 is clear
spread_half : (r : ℕ) → r < rows32 → (spread r / 512 ≡ r / 256) × ((spread r + 8) / 512 ≡ r / 256)
unfolding spread
spread_half r h =
    let e : r / 8 % 64 / 32 ≡ r / 256 = omega arith in
    (omega arith, omega arith)

pub storage16_half : (f : Flags) (r : View16Row) → (storage16 f r).0 / 512 ≡ r.0 / 512
unfolding storage16
storage16_half f r = omega (arith, remap_above f r.0)

pub halves32 : (f : Flags) (r : View32Row) → r.0 < rows32 → ((high32 f r).0 / 512 ≡ r.0 / 256) × ((low32 f r).0 / 512 ≡ r.0 / 256)
unfolding high32 low32
halves32 f r h =
    let m = after_remap f r.0 in
    let i : after_swizzle f m / 256 ≡ r.0 / 256 = omega (arith, remap_above f r.0, swizzle_above f m) in
    let p = spread_half (after_swizzle f m) (omega arith) in
    (omega (arith, p.0), omega (arith, p.1))
