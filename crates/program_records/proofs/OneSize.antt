-- A record of one size at a place of the input, where the numbers read there go by names.
use Prim.Native.Nat.{ℕ, ◌+◌}
use mathlib.Core.Path.{◌≡◌}
use mathlib.Core.Bool.{cond}
use mathlib.Core.List.{List}
use native.Mathlib.Nat.{add_assoc}
use lib.Dec.{leb}
use lib.ListN.{drop}
use lib.Seq.{drop-drop}
use Rattle.std.specs.Prelude.{Some, None}
use Rattle.bits.specs.Bytes.{le}
use Rattle.format.specs.Format.{head_bytes}
use Rattle.program_records.specs.Head.{budget_kind, cursor_kind, has_body}
use Rattle.program_records.specs.Fixed.{budget_record_of, cursor_record_of}

-- the budget, and the cursor, of an input from a place on
pub budget_is : (s : List ℕ) (at most : ℕ) → budget_record_of most (drop at s) ≡
    cond (has_body budget_kind 4 (drop at s)) (cond (leb (le 4 (drop (at + head_bytes) s)) most) (Some (le 4 (drop (at + head_bytes) s))) None) None
unfolding budget_record_of
budget_is s at most = rw (drop-drop head_bytes at s)

pub cursor_is : (s : List ℕ) (at : ℕ) → cursor_record_of (drop at s) ≡
    cond (has_body cursor_kind 16 (drop at s))
    (Some (record { at0 = le 4 (drop (at + head_bytes) s); at1 = le 4 (drop (at + head_bytes + 4) s); at2 = le 4 (drop (at + head_bytes + 8) s); next = le 4 (drop (at + head_bytes + 12) s) })) None
unfolding cursor_record_of
cursor_is s at =
    let each : (n : ℕ) → drop (head_bytes + n) (drop at s) ≡ drop (at + head_bytes + n) s = λ n. rw (add_assoc at head_bytes n) (drop-drop (head_bytes + n) at s) in
    rw (drop-drop head_bytes at s, each 4, each 8, each 12)
