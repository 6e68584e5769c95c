-- The rows of the two views, by their limits, and the rows of storage.
use Rattle.std.specs.Prelude.{ℕ, cond, ltb, Option, Some, None}
use Rattle.dest.specs.declared.rows.View16Row.{View16Row}
use Rattle.dest.specs.declared.rows.View32Row.{View32Row}
use Rattle.dest.specs.declared.rows.StorageRow.{StorageRow}

abbrev pub rows16 : ℕ
rows16 = 1024

abbrev pub rows32 : ℕ
rows32 = 512

abbrev pub storage_rows : ℕ
storage_rows = 1024

abbrev pub view16 : ℕ → View16Row
view16 n = record { 0 = n }

abbrev pub view32 : ℕ → View32Row
view32 n = record { 0 = n }

abbrev pub storage_row : ℕ → StorageRow
storage_row n = record { 0 = n }

-- a 16-bit view row is 0–1023
abbrev pub row16_of : ℕ → Option View16Row
row16_of n = cond (ltb n rows16) (Some (view16 n)) None

-- a 32-bit view row is 0–511
abbrev pub row32_of : ℕ → Option View32Row
row32_of n = cond (ltb n rows32) (Some (view32 n)) None
