-- A record is its body's length (4 bytes), its kind (2) and its body. The kinds of the programs' inputs.
use Rattle.std.specs.Prelude.{ℕ, ◌+◌, Bool, false, cond, List, leb, eqb, length, drop, Option, Some, None}
use Rattle.bits.specs.Bytes.{le}
use Rattle.format.specs.Format.{head_bytes}
use Rattle.program_records.specs.declared.head.BadRecord.{BadRecord}

-- thread t's words, the budget, the cursor
abbrev pub words_kind : ℕ → ℕ
words_kind t = 32 + t

abbrev pub budget_kind : ℕ
budget_kind = 35

abbrev pub cursor_kind : ℕ
cursor_kind = 36

-- an input that is not sound, from a place on
abbrev pub bad : ℕ → BadRecord
bad n = record { at = n }

abbrev pub body_length : List ℕ → ℕ
body_length bs = le 4 bs

abbrev pub record_kind : List ℕ → ℕ
record_kind bs = le 2 (drop 4 bs)

-- how many bytes the body of a record of this kind has: at most so many, and none missing
unfoldable pub body_of : ℕ → ℕ → List ℕ → Option ℕ
body_of kind most bs =
    cond (leb head_bytes (length bs))
    (cond (eqb (record_kind bs) kind)
    (cond (leb (body_length bs) most)
    (cond (leb (head_bytes + body_length bs) (length bs)) (Some (body_length bs)) None)
    None)
    None)
    None

abbrev pub same_body : ℕ → Option ℕ → Bool
same_body n (Some k) = eqb k n
same_body n None = false

-- a record of this kind with a body of exactly n bytes
unfoldable pub has_body : ℕ → ℕ → List ℕ → Bool
has_body kind n bs = same_body n (body_of kind n bs)
