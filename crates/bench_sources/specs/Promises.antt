-- What holds of the calls together, over their definitions.
use Rattle.std.specs.Prelude.{ℕ, ◌≡◌, List}
use Rattle.machine.specs.Control.{unpack_bank}
use Rattle.machine.specs.declared.control.Control.{Control}
use Rattle.machine.specs.Answers.{accepted}
use Rattle.bench_sources.specs.Sources.{Sources, write_source_row_of, shown_row}

pub record SourcePromises : Type 0 where
  -- what is written to a source row is shown, in the bank at the unpack pointer
  pub shown_back : (c : Control) (s : Sources) (file row : ℕ) (cells : List ℕ) →
      (write_source_row_of c s file row cells).answer ≡ accepted tt →
      shown_row (write_source_row_of c s file row cells).after.src_a (write_source_row_of c s file row cells).after.src_b file (unpack_bank c file) row ≡ cells
  -- every other row of the two files is shown as before, also after a refused call
  pub others_shown : (c : Control) (s : Sources) (file row : ℕ) (cells : List ℕ) (file' bank' row' : ℕ) →
      ((file ≡ file') × (unpack_bank c file ≡ bank') × (row ≡ row') → ⊥) →
      shown_row (write_source_row_of c s file row cells).after.src_a (write_source_row_of c s file row cells).after.src_b file' bank' row' ≡ shown_row s.src_a s.src_b file' bank' row'
