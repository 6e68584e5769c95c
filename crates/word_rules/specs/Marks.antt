-- Valid marks of Dest's storage rows cleared by rows of a view: rows go through the Dest maps.
use Rattle.std.specs.Prelude.{ℕ, zero, suc, ◌+◌, ◌≤◌, ◌<◌, ◌≡◌, Bool, true, false, cond, List, ◌⊎◌, set, get_or}
use Rattle.dest.specs.declared.flags.Flags.{Flags}
use Rattle.dest.specs.declared.rows.View16Row.{View16Row}
use Rattle.dest.specs.declared.rows.View32Row.{View32Row}
use Rattle.dest.specs.Rows.{rows16, rows32, view16, view32}
use Rattle.dest.specs.Maps.{storage16, high32, low32}

-- the rows of a view: 512 of the 32-bit view, 1,024 of the 16-bit view
abbrev pub view_rows : Bool → ℕ
view_rows wide = cond wide rows32 rows16

-- a row of the 16-bit view cleared
abbrev pub clear_row16 : Flags → View16Row → List Bool → List Bool
clear_row16 f row marks = set marks (storage16 f row).0 false

-- a row of the 32-bit view cleared: both its storage rows
abbrev pub clear_row32 : Flags → View32Row → List Bool → List Bool
clear_row32 f row marks = set (set marks (high32 f row).0 false) (low32 f row).0 false

-- the row of a number in the view that the word names
unfoldable pub clear_row : Bool → Flags → ℕ → List Bool → List Bool
clear_row wide f row marks = cond wide (clear_row32 f (view32 row) marks) (clear_row16 f (view16 row) marks)

-- so many view rows cleared, from the first on
unfoldable pub clear_rows : Bool → Flags → ℕ → ℕ → List Bool → List Bool
clear_rows wide f first zero marks = marks
clear_rows wide f first (suc n) marks = clear_rows wide f (first + 1) n (clear_row wide f first marks)

-- storage row q is one that a view row lies in: of the 32-bit view, with its high or its low halves
abbrev pub LiesIn : Bool → Flags → ℕ → ℕ → Type 0
LiesIn true f row q = (q ≡ (high32 f (view32 row)).0) ⊎ (q ≡ (low32 f (view32 row)).0)
LiesIn false f row q = q ≡ (storage16 f (view16 row)).0

-- a mark is cleared exactly if one of the n view rows from the first on lies in its storage row
pub record RowsCleared (wide : Bool) (f : Flags) (first n : ℕ) (marks after : List Bool) : Type 0 where
  pub cleared : (row q : ℕ) → first ≤ row → row < first + n → LiesIn wide f row q → get_or after q false ≡ false
  pub kept : (q : ℕ) → ((row : ℕ) → first ≤ row → row < first + n → LiesIn wide f row q → ⊥) → get_or after q false ≡ get_or marks q false
