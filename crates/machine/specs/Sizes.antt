-- How many there are of each thing (document 01, "The machine"), and the largest number of each kind. A size is said here alone.
use Rattle.std.specs.Prelude.{ℕ, ◌*◌}

-- ---- sizes

abbrev pub thread_count : ℕ
thread_count = 3

-- a thread's GPRs, and those of all
abbrev pub thread_gprs : ℕ
thread_gprs = 64

abbrev pub gpr_count : ℕ
gpr_count = thread_count * thread_gprs

-- a thread's ThreadConfig entries, and those of all
abbrev pub thread_settings : ℕ
thread_settings = 64

abbrev pub setting_count : ℕ
setting_count = thread_count * thread_settings

-- the Config banks, the words of one, and those of both
abbrev pub config_banks : ℕ
config_banks = 2

abbrev pub bank_words : ℕ
bank_words = 256

abbrev pub config_count : ℕ
config_count = config_banks * bank_words

abbrev pub mutex_count : ℕ
mutex_count = 8

abbrev pub semaphore_count : ℕ
semaphore_count = 8

-- the cells of a row, of Dest and of a source file
abbrev pub row_cells : ℕ
row_cells = 16

-- Dest's rows, with a mark each, and its cells
abbrev pub mark_count : ℕ
mark_count = 1024

abbrev pub dest_count : ℕ
dest_count = mark_count * row_cells

-- a source file's banks, the rows of one, and the cells of both
abbrev pub source_banks : ℕ
source_banks = 2

abbrev pub source_rows : ℕ
source_rows = 64

abbrev pub source_count : ℕ
source_count = source_banks * (source_rows * row_cells)

-- the banks of both source files, each with an owner, and the bank pointers
abbrev pub bank_count : ℕ
bank_count = 4

abbrev pub pointer_count : ℕ
pointer_count = 4

-- ---- largest numbers

-- of 16, 19 and 32 bits: a ThreadConfig entry or Dest cell, a source cell, a GPR or Config word
abbrev pub half_most : ℕ
half_most = 65535

abbrev pub cell_most : ℕ
cell_most = 524287

abbrev pub word_most : ℕ
word_most = 4294967295

-- who holds a mutex: 0 none, else thread + 1
abbrev pub holder_most : ℕ
holder_most = 3

-- a semaphore's value and maximum
abbrev pub semaphore_most : ℕ
semaphore_most = 15

-- of a wait: block bits, 15–23 of the word; stall conditions, 0–14; semaphore mask, 2–9; semaphore condition, 0–1
abbrev pub block_most : ℕ
block_most = 511

abbrev pub conditions_most : ℕ
conditions_most = 32767

abbrev pub mask_most : ℕ
mask_most = 255

abbrev pub condition_most : ℕ
condition_most = 3

-- the longest stream, and the largest budget of turns
abbrev pub stream_most : ℕ
stream_most = 65536

abbrev pub budget_most : ℕ
budget_most = 1000000
