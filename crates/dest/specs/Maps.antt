-- The Dest maps, at every number. In them `field i 1 r * 2 ^ j` is bit i of r, moved to place j.
use Rattle.std.specs.Prelude.{ℕ, ◌+◌, ◌*◌, ◌/◌, ◌^◌, cond}
use Rattle.std.specs.Int.Bits.{bit_xor}
use Rattle.bits.specs.Field.{field}
use Rattle.dest.specs.declared.flags.Flags.{Flags}
use Rattle.dest.specs.declared.rows.View16Row.{View16Row}
use Rattle.dest.specs.declared.rows.View32Row.{View32Row}
use Rattle.dest.specs.declared.rows.StorageRow.{StorageRow}
use Rattle.dest.specs.Rows.{storage_row}

-- bit 4 moves to 3, 5 to 4, 3 to 5; bits 0–2 and those from 6 on stay
unfoldable pub remapped : ℕ → ℕ
remapped r = r / 2 ^ 6 * 2 ^ 6 + field 3 1 r * 2 ^ 5 + field 5 1 r * 2 ^ 4 + field 4 1 r * 2 ^ 3 + field 0 3 r

-- new bit 2 is old 3, new bit 3 is old 4 xor old 2; bits 0–1 and those from 4 on stay
unfoldable pub swizzled : ℕ → ℕ
swizzled r = r / 2 ^ 4 * 2 ^ 4 + bit_xor (field 4 1 r) (field 2 1 r) * 2 ^ 3 + field 3 1 r * 2 ^ 2 + field 0 2 r

abbrev pub after_remap : Flags → ℕ → ℕ
after_remap f r = cond f.remap (remapped r) r

abbrev pub after_swizzle : Flags → ℕ → ℕ
after_swizzle f r = cond f.swizzle (swizzled r) r

-- bits 0–2 are kept and bits 3–8 moved up by one
unfoldable pub spread : ℕ → ℕ
spread r = field 3 6 r * 2 ^ 4 + field 0 3 r

-- where a 16-bit view row lies: swizzle is for the 32-bit view only
unfoldable pub storage16 : Flags → View16Row → StorageRow
storage16 f r = storage_row (after_remap f r.0)

-- where a 32-bit view row's high halves lie: swizzle comes after remap
unfoldable pub high32 : Flags → View32Row → StorageRow
high32 f r = storage_row (spread (after_swizzle f (after_remap f r.0)))

-- its low halves lie 8 rows on
unfoldable pub low32 : Flags → View32Row → StorageRow
low32 f r = storage_row ((high32 f r).0 + 8)
