-- Laws of storage rows that are written, and of the halves of 32-bit cells.
use Prim.Native.Nat.{ℕ, ◌+◌, ◌*◌, ◌≤◌, ◌<◌}
use mathlib.Core.Bool.{true, false}
use mathlib.Core.List.{List, [], ◌∷◌, zip_with}
use mathlib.Core.Path.{◌≡◌, refl, ◌∙◌}
use native.Mathlib.Omega.{arith}
use lib.Dec.{leb}
use lib.ListN.{length, length-set}
use lib.Seq.{get_or-set_same, get_or-set_other}
use borrow.Author.Tests.{leb-true}
use Rattle.bits.proofs.Choices.{and_left, and_right}
use Rattle.bits.proofs.Overwrite.{over_long}
use Rattle.bits.specs.Field.{field}
use Rattle.bits.specs.Ranges.{all_at_most}
use Rattle.dest.specs.Rows.{storage_rows}
use Rattle.dest.specs.declared.rows.StorageRow.{StorageRow}
use Rattle.machine.specs.Sizes.{row_cells, dest_count, mark_count, word_most}
use Rattle.bench_cells.specs.Cells.{high_halves, low_halves, wide_cell, wide_cells}
use Rattle.machine.specs.Machine.{Dest}
use Rattle.bench_dest.specs.DestRows.{stored_row, with_stored_row}
use Rattle.bench_cells.proofs.Rows.{row_same, row_other}

-- Dest and its marks have their sizes
pub record Sized (s : Dest) : Type 0 where
  pub cells : length s.cells ≡ dest_count
  pub marks : length s.marks ≡ mark_count

module _ (s : Dest) (z : Sized s) (q : StorageRow) (within : q.0 < storage_rows) (cells : List ℕ) (long : length cells ≡ row_cells) where
  fits : q.0 * row_cells + row_cells ≤ length s.cells
  fits = omega (arith, z.cells)

  pub stored_sized : Sized (with_stored_row s q cells)
  unfolding with_stored_row
  stored_sized =
      record {
        cells = over_long s.cells (q.0 * row_cells) cells (omega (arith, fits)) ∙ z.cells;
        marks = length-set s.marks q.0 true ∙ z.marks;
      }

  pub stored_same : stored_row (with_stored_row s q cells) q ≡ cells
  unfolding stored_row with_stored_row
  stored_same =
      let m : q.0 < length s.marks = omega (arith, z.marks) in
      rw (get_or-set_same s.marks q.0 true false m) (row_same s.cells q.0 cells long fits)

  pub stored_other : (r : StorageRow) → (r.0 ≡ q.0 → ⊥) → stored_row (with_stored_row s q cells) r ≡ stored_row s r
  unfolding stored_row with_stored_row
  stored_other r n =
      rw (get_or-set_other s.marks q.0 r.0 true false n, row_other s.cells q.0 cells long fits r.0 n)

-- the halves of each 32-bit cell make the cell
pub halves_back : (cells : List ℕ) → all_at_most word_most cells ≡ true → wide_cells (high_halves cells) (low_halves cells) ≡ cells
unfolding all_at_most zip_with
halves_back [] h = refl
halves_back (x ∷ l) h =
    let b : x ≤ word_most = leb-true x word_most (and_left (leb x word_most) (all_at_most word_most l) h) in
    let e : wide_cell (field 16 16 x) (field 0 16 x) ≡ x = omega arith in
    rw (e, halves_back l (and_right (leb x word_most) (all_at_most word_most l) h))
