-- The records of one size: the budget (35, 4 bytes) and the cursor (36, 16 bytes).
use Rattle.std.specs.Prelude.{ℕ, ◌+◌, cond, List, leb, drop, Option, Some, None}
use Rattle.bits.specs.Bytes.{le}
use Rattle.format.specs.Format.{head_bytes}
use Rattle.run_order.specs.declared.cursor.Cursor.{Cursor}
use Rattle.program_records.specs.Head.{budget_kind, cursor_kind, has_body}

-- a record's size: its head and body
abbrev pub budget_bytes : ℕ
budget_bytes = head_bytes + 4

abbrev pub cursor_bytes : ℕ
cursor_bytes = head_bytes + 16

abbrev pub budget_in : List ℕ → ℕ
budget_in bs = le 4 (drop head_bytes bs)

-- a budget of at most so many turns
unfoldable pub budget_record_of : ℕ → List ℕ → Option ℕ
budget_record_of most bs =
    cond (has_body budget_kind 4 bs) (cond (leb (budget_in bs) most) (Some (budget_in bs)) None) None

-- the three positions and the next thread, 4 bytes each
abbrev pub cursor_in : List ℕ → Cursor
cursor_in bs =
    record {
      at0 = le 4 (drop head_bytes bs);
      at1 = le 4 (drop (head_bytes + 4) bs);
      at2 = le 4 (drop (head_bytes + 8) bs);
      next = le 4 (drop (head_bytes + 12) bs);
    }

unfoldable pub cursor_record_of : List ℕ → Option Cursor
cursor_record_of bs = cond (has_body cursor_kind 16 bs) (Some (cursor_in bs)) None
