-- Where things stand in a store: each is one list by thread or bank, row, column.
use Rattle.std.specs.Prelude.{ℕ, ◌+◌, ◌*◌}
use Rattle.machine.specs.Sizes.{thread_settings, bank_words, source_rows, row_cells}

-- thread t's ThreadConfig entry among the 3 x 64
abbrev pub setting_place : ℕ → ℕ → ℕ
setting_place t entry = t * thread_settings + entry

-- a bank's Config word among the 2 x 256
abbrev pub config_place : ℕ → ℕ → ℕ
config_place bank index = bank * bank_words + index

-- the first cell of a bank's row among the 2 x 64 rows of 16 cells
abbrev pub row_place : ℕ → ℕ → ℕ
row_place bank row = (bank * source_rows + row) * row_cells
