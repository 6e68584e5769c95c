-- Where the maps' numbers lie, at any row.
use Prim.Native.Nat.{ℕ, ◌+◌, ◌*◌, ◌/◌, ◌%◌, ◌<◌}
use native.Mathlib.Omega.{arith}
use lib.Bits.{bit_xor, xor_lt}
use Rattle.dest.specs.declared.flags.Flags.{Flags}
use Rattle.dest.specs.declared.rows.View32Row.{View32Row}
use Rattle.dest.specs.Rows.{storage_rows}
use Rattle.dest.specs.Maps.{spread, high32, low32}

-- three bits under those from 6 on, and then bits 0–2
pub under_six : (a b d e : ℕ) → a < 1024 → b < 2 → d < 2 → e < 2 → a * 64 + b * 32 + d * 16 + e * 8 < 65536
under_six a b d e h i j k = omega arith

pub with_low_lem : (a b d e h : ℕ) → a < 1024 → b < 2 → d < 2 → e < 2 → h < 8 → a * 64 + b * 32 + d * 16 + e * 8 + h < 65536
with_low_lem a b d e h i j k l m = omega arith

-- the xor of two bits is a bit
pub crossed_lt : (r : ℕ) → bit_xor (r / 16 % 2) (r / 4 % 2) < 2
crossed_lt r = xor_lt 1 (r / 16 % 2) (r / 4 % 2) (omega arith) (omega arith)

spread_lt : (r : ℕ) → spread r < 1016
unfolding spread
spread_lt r = omega arith

pub high32_lt : (f : Flags) (r : View32Row) → (high32 f r).0 < 1016
unfolding high32
high32_lt f r = spread_lt _

pub low32_lt : (f : Flags) (r : View32Row) → (low32 f r).0 < storage_rows
unfolding low32
low32_lt f r = omega (arith, high32_lt f r)
