-- What is written to a Dest row is read back, and every other row of the view is left as it reads: no two rows share a storage row.
use Prim.Native.Nat.{ℕ, ◌<◌}
use mathlib.Core.Bool.{true}
use mathlib.Core.List.{List}
use mathlib.Core.Path.{◌≡◌, sym, ◌∙◌}
use native.Mathlib.Omega.{arith}
use lib.ListN.{length, length-map}
use Rattle.bits.specs.Ranges.{all_at_most}
use Rattle.dest.proofs.Apart.{storage16_lt, storage16_apart, high32_apart, low32_apart, high_low_apart}
use Rattle.dest.proofs.Bounds.{high32_lt, low32_lt}
use Rattle.dest.specs.Rows.{rows16, rows32, storage_rows, view16, view32}
use Rattle.dest.specs.declared.flags.Flags.{Flags}
use Rattle.dest.specs.declared.rows.StorageRow.{StorageRow}
use Rattle.machine.specs.Sizes.{row_cells, word_most}
use Rattle.machine.specs.Answers.{accepted}
use Rattle.bench_cells.specs.Cells.{high_halves, low_halves, wide_cells}
use Rattle.word_rules.specs.CellWords.{flags_in}
use Rattle.machine.specs.Machine.{Dest}
use Rattle.bench_dest.specs.DestRows.{stored_row, with_stored_row, row16_at, rows32_at, read_row16_of, write_row16_of, read_row32_of, write_row32_of}
use Rattle.bench_dest.specs.Promises.{DestPromises}
use Rattle.bench_dest.proofs.StoredRows.{Sized, stored_sized, stored_same, stored_other, halves_back}
use Rattle.bench_dest.proofs.ViewBack.{write_check, WriteFacts, write_facts, read_back, others_left_lem}

module _ (config : List ℕ) (s : Dest) (bank row : ℕ) (cells : List ℕ) where
  abbrev flags : Flags
  flags = flags_in bank config

  -- the 16-bit view
  abbrev seen16 : Dest → ℕ → List ℕ
  seen16 u r = stored_row u (row16_at config bank r)

  abbrev after16 : Dest
  after16 = with_stored_row s (row16_at config bank row) cells

  module _ (e : accepted tt ≡ write_check config s bank row rows16 cells) where
    facts16 : WriteFacts config s bank row rows16 cells
    facts16 = write_facts config s bank row rows16 cells e

    lt16 : (row16_at config bank row).0 < storage_rows
    lt16 = storage16_lt flags (view16 row) facts16.row_in

    sized16 : Sized after16
    sized16 = stored_sized s facts16.sized (row16_at config bank row) lt16 cells facts16.long

    back16 : seen16 after16 row ≡ cells
    back16 = stored_same s facts16.sized (row16_at config bank row) lt16 cells facts16.long

    left16 : (r : ℕ) → (row ≡ r → ⊥) → r < rows16 → seen16 after16 r ≡ seen16 s r
    left16 r n k =
        stored_other s facts16.sized (row16_at config bank row) lt16 cells facts16.long (row16_at config bank r)
        (λ i. n (storage16_apart flags (view16 row) (view16 r) facts16.row_in k (sym i)))

  -- the 32-bit view
  abbrev high : ℕ → StorageRow
  high r = (rows32_at config bank r).high

  abbrev low : ℕ → StorageRow
  low r = (rows32_at config bank r).low

  abbrev seen32 : Dest → ℕ → List ℕ
  seen32 u r = wide_cells (stored_row u (high r)) (stored_row u (low r))

  abbrev after32 : Dest
  after32 = with_stored_row (with_stored_row s (high row) (high_halves cells)) (low row) (low_halves cells)

  high_lt : (r : ℕ) → (high r).0 < storage_rows
  high_lt r = omega (arith, high32_lt flags (view32 r))

  low_lt : (r : ℕ) → (low r).0 < storage_rows
  low_lt r = low32_lt flags (view32 r)

  module _ (e : accepted tt ≡ write_check config s bank row rows32 cells) where
    facts32 : WriteFacts config s bank row rows32 cells
    facts32 = write_facts config s bank row rows32 cells e

    high_long : length (high_halves cells) ≡ row_cells
    high_long = rw length-map facts32.long

    low_long : length (low_halves cells) ≡ row_cells
    low_long = rw length-map facts32.long

    abbrev half_after : Dest
    half_after = with_stored_row s (high row) (high_halves cells)

    half_sized : Sized half_after
    half_sized = stored_sized s facts32.sized (high row) (high_lt row) (high_halves cells) high_long

    sized32 : Sized after32
    sized32 = stored_sized half_after half_sized (low row) (low_lt row) (low_halves cells) low_long

    -- a storage row that is neither of the two
    else32 : (q : StorageRow) → (q.0 ≡ (high row).0 → ⊥) → (q.0 ≡ (low row).0 → ⊥) → stored_row after32 q ≡ stored_row s q
    else32 q n m =
        stored_other half_after half_sized (low row) (low_lt row) (low_halves cells) low_long q m
        ∙ stored_other s facts32.sized (high row) (high_lt row) (high_halves cells) high_long q n

    back32 : all_at_most word_most cells ≡ true → seen32 after32 row ≡ cells
    back32 h =
        let i = facts32.row_in in
        let u =
        stored_other half_after half_sized (low row) (low_lt row) (low_halves cells) low_long (high row) (high_low_apart flags (view32 row) (view32 row) i i)
        ∙ stored_same s facts32.sized (high row) (high_lt row) (high_halves cells) high_long in
        let l = stored_same half_after half_sized (low row) (low_lt row) (low_halves cells) low_long in
        rw (u, l) (halves_back cells h)

    left32 : (r : ℕ) → (row ≡ r → ⊥) → r < rows32 → seen32 after32 r ≡ seen32 s r
    left32 r n k =
        let i = facts32.row_in in
        let u = else32 (high r) (λ a. n (high32_apart flags (view32 row) (view32 r) i k (sym a))) (high_low_apart flags (view32 r) (view32 row) k i) in
        let l = else32 (low r) (λ a. high_low_apart flags (view32 row) (view32 r) i k (sym a)) (λ a. n (low32_apart flags (view32 row) (view32 r) i k (sym a))) in
        rw (u, l)

pub dest_promises : DestPromises
unfolding read_row16_of write_row16_of read_row32_of write_row32_of
dest_promises =
    record {
      read_back16 = λ config s bank row cells out.
          read_back config s bank rows16 (seen16 config s bank row cells) row cells (after16 config s bank row cells) (sized16 config s bank row cells) out (back16 config s bank row cells);
      read_back32 = λ config s bank row cells out h k w.
          read_back config s bank rows32 (seen32 config s bank row cells) row cells (after32 config s bank row cells) (sized32 config s bank row cells) out
          (λ e. back32 config s bank row cells e w) h k;
      others_left16 = λ config s bank row row' cells out n.
          others_left_lem config s bank rows16 (seen16 config s bank row cells) row cells (after16 config s bank row cells) (sized16 config s bank row cells) row' out
          (λ e. left16 config s bank row cells e row' n);
      others_left32 = λ config s bank row row' cells out n.
          others_left_lem config s bank rows32 (seen32 config s bank row cells) row cells (after32 config s bank row cells) (sized32 config s bank row cells) row' out
          (λ e. left32 config s bank row cells e row' n);
    }
