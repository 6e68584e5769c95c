-- How long an input is that holds its records, and where each starts. These definitions serve internal contracts alone.
use Rattle.std.specs.Prelude.{ℕ, ◌+◌, ◌*◌, ◌≤◌, Result, Ok, Err, List, ◌≡◌, length}
use Rattle.expander_rules.specs.Sizes.{needed_most}
use Rattle.program_carried.specs.CarriedFormat.{record_bytes}
use Rattle.expand.specs.declared.input.Sizes.{Sizes}
use Rattle.program_records.specs.declared.head.BadRecord.{BadRecord}
use Rattle.expand.specs.declared.input.Input.{Input}
use Rattle.expand.specs.declared.input.Input.TheVariants.{Piece, Close}

-- the most words of records 37 and 39
abbrev pub nines_most : ℕ
nines_most = 16

abbrev pub words_most : ℕ
words_most = 65537

-- record 39 with the most words that a call may write
abbrev pub words_record : ℕ
words_record = 6 + 4 * needed_most

-- where records 38, 39 or 41, and 40 start, and the input ends, but for 4 bytes a word of records 37 and 39; each record has a head of 6,
-- and record 40 a body of 4
abbrev pub carried_at : ℕ
carried_at = 6

abbrev pub words_at : ℕ
words_at = carried_at + record_bytes

abbrev pub room_at : ℕ
room_at = words_at + 6

abbrev pub end_at : ℕ
end_at = room_at + 6 + 4

pub record Fits (s : List ℕ) (z : Sizes) : Type 0 where
  pub long : length s ≡ end_at + 4 * z.nine + 4 * z.words
  pub nines : z.nine ≤ nines_most
  pub streams : z.words ≤ words_most

abbrev pub Read : List ℕ → Result Input BadRecord → Type 0
Read s (Ok (Piece z)) = Fits s z
-- records 37, 38, and 41 without a body
Read s (Ok (Close n)) = (n ≤ nines_most) × (words_at + 4 * n ≤ length s)
Read s (Err e) = Unit {0}
