-- Bench access to whole Dest rows, in either view.
use Rattle.std.specs.Prelude.{ℕ, ◌*◌, true, false, cond, ◌&&◌, List, eqb, leb, ltb, length, get_or, set, take, drop, replicate}
use Rattle.bits.specs.Overwrite.{over}
use Rattle.dest.specs.Maps.{storage16, high32, low32}
use Rattle.dest.specs.Rows.{rows16, rows32, view16, view32}
use Rattle.dest.specs.declared.rows.StorageRow.{StorageRow}
use Rattle.machine.specs.Sizes.{config_count, dest_count, mark_count, row_cells}
use Rattle.machine.specs.Machine.{Dest, dest_of}
use Rattle.word_rules.specs.CellWords.{flags_in}
use Rattle.machine.specs.Answers.{Told, accepted, provided, Call, checked}
use Rattle.bench_cells.specs.Cells.{high_halves, low_halves, wide_cells}

-- an invalid storage row reads as zeros
unfoldable pub stored_row : Dest → StorageRow → List ℕ
stored_row s q =
    cond (get_or s.marks q.0 false) (take row_cells (drop (q.0 * row_cells) s.cells)) (replicate row_cells 0)

-- writing marks the storage row valid
unfoldable pub with_stored_row : Dest → StorageRow → List ℕ → Dest
with_stored_row s q cells = dest_of (over s.cells (q.0 * row_cells) cells) (set s.marks q.0 true)

-- the storage row of a 16-bit view row, by the flags in the named bank's word 255
abbrev pub row16_at : List ℕ → ℕ → ℕ → StorageRow
row16_at config bank row = storage16 (flags_in bank config) (view16 row)

-- the storage rows of the halves of a 32-bit view row
pub record HalfRows : Type 0 where
  pub high : StorageRow
  pub low : StorageRow

abbrev pub rows32_at : List ℕ → ℕ → ℕ → HalfRows
rows32_at config bank row =
    record { high = high32 (flags_in bank config) (view32 row); low = low32 (flags_in bank config) (view32 row) }

-- 4: Config, Dest or its marks of wrong length; 11: bank over 1. By their types all their numbers are in range, so 10 is never given
unfoldable pub bank_check : {A : Type 0} → ℕ → ℕ → ℕ → ℕ → Told A → Told A
bank_check words cells marks bank rest =
    provided (eqb words config_count && (eqb cells dest_count && eqb marks mark_count)) 4
    (provided (leb bank 1) 11
    rest)

-- 11: row past its view
abbrev pub dest_check : {A : Type 0} → ℕ → ℕ → ℕ → ℕ → ℕ → ℕ → Told A → Told A
dest_check words cells marks bank row rows rest = bank_check words cells marks bank (provided (ltb row rows) 11 rest)

abbrev pub row_check : List ℕ → Dest → ℕ → ℕ → ℕ → Told (Unit {0}) → Told (Unit {0})
row_check config s bank row rows rest =
    dest_check (length config) (length s.cells) (length s.marks) bank row rows rest

-- 8, and so last: output shorter than a row
abbrev pub output_check : List ℕ → Told (Unit {0})
output_check out = provided (leb row_cells (length out)) 8 (accepted tt)

-- 4, and so first: another number of cells lent than a row has
abbrev pub cells_check : List ℕ → Told (Unit {0}) → Told (Unit {0})
cells_check cells rest = provided (eqb (length cells) row_cells) 4 rest

-- a read fills the output from its start and leaves its rest
unfoldable pub read_row16_of : List ℕ → Dest → ℕ → ℕ → List ℕ → Call (List ℕ)
read_row16_of config s bank row out =
    checked (row_check config s bank row rows16 (output_check out)) out
    (over out 0 (stored_row s (row16_at config bank row)))

unfoldable pub read_row32_of : List ℕ → Dest → ℕ → ℕ → List ℕ → Call (List ℕ)
read_row32_of config s bank row out =
    checked (row_check config s bank row rows32 (output_check out)) out
    (over out 0 (wide_cells (stored_row s (rows32_at config bank row).high) (stored_row s (rows32_at config bank row).low)))

unfoldable pub write_row16_of : List ℕ → Dest → ℕ → ℕ → List ℕ → Call Dest
write_row16_of config s bank row cells =
    checked (cells_check cells (row_check config s bank row rows16 (accepted tt))) s
    (with_stored_row s (row16_at config bank row) cells)

unfoldable pub write_row32_of : List ℕ → Dest → ℕ → ℕ → List ℕ → Call Dest
write_row32_of config s bank row cells =
    checked (cells_check cells (row_check config s bank row rows32 (accepted tt))) s
    (with_stored_row (with_stored_row s (rows32_at config bank row).high (high_halves cells)) (rows32_at config bank row).low (low_halves cells))
