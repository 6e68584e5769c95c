-- The cells of a row.
use Rattle.std.specs.Prelude.{ℕ, ◌+◌, ◌*◌}
use mathlib.Core.List.{List, map, zip_with}
use Rattle.bits.specs.Field.{field}

-- the high halves hold bits 16–31 of each 32-bit cell
abbrev pub high_halves : List ℕ → List ℕ
high_halves cells = map (field 16 16) cells

-- the low halves hold bits 0–15
abbrev pub low_halves : List ℕ → List ℕ
low_halves cells = map (field 0 16) cells

-- the 32-bit cell that a high and a low half make
abbrev pub wide_cell : ℕ → ℕ → ℕ
wide_cell high low = high * 65536 + low

abbrev pub wide_cells : List ℕ → List ℕ → List ℕ
wide_cells high low = zip_with wide_cell high low
