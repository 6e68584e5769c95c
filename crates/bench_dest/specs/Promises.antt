-- What holds of the calls together, over their definitions.
use Rattle.std.specs.Prelude.{ℕ, ◌≤◌, ◌≡◌, true, List, length}
use Rattle.bits.specs.Overwrite.{over}
use Rattle.bits.specs.Ranges.{all_at_most}
use Rattle.machine.specs.Sizes.{row_cells, word_most}
use Rattle.machine.specs.Answers.{accepted, call}
use Rattle.machine.specs.Machine.{Dest}
use Rattle.bench_dest.specs.DestRows.{read_row16_of, write_row16_of, read_row32_of, write_row32_of}

-- in each view, for every Config and so in each setting of the flags
pub record DestPromises : Type 0 where
  -- what is written to a row is read back
  pub read_back16 : (config : List ℕ) (s : Dest) (bank row : ℕ) (cells out : List ℕ) →
      (write_row16_of config s bank row cells).answer ≡ accepted tt →
      row_cells ≤ length out →
      read_row16_of config (write_row16_of config s bank row cells).after bank row out ≡ call (accepted tt) (over out 0 cells)
  -- of cells that have 32 bits
  pub read_back32 : (config : List ℕ) (s : Dest) (bank row : ℕ) (cells out : List ℕ) →
      (write_row32_of config s bank row cells).answer ≡ accepted tt →
      row_cells ≤ length out →
      all_at_most word_most cells ≡ true →
      read_row32_of config (write_row32_of config s bank row cells).after bank row out ≡ call (accepted tt) (over out 0 cells)
  -- every other row of the view is left as it reads, also by a refused call
  pub others_left16 : (config : List ℕ) (s : Dest) (bank row row' : ℕ) (cells out : List ℕ) →
      (row ≡ row' → ⊥) →
      read_row16_of config (write_row16_of config s bank row cells).after bank row' out ≡ read_row16_of config s bank row' out
  pub others_left32 : (config : List ℕ) (s : Dest) (bank row row' : ℕ) (cells out : List ℕ) →
      (row ≡ row' → ⊥) →
      read_row32_of config (write_row32_of config s bank row cells).after bank row' out ≡ read_row32_of config s bank row' out
