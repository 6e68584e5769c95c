-- A number within a view, made a row of it, is that row and not past the view.
use Prim.Native.Nat.{ℕ, ◌<◌}
use mathlib.Core.Path.{◌≡◌}
use borrow.Author.Tests.{lt-ltb}
use Rattle.std.specs.Prelude.{Option, Some}
use Rattle.dest.specs.declared.rows.View16Row.{View16Row}
use Rattle.dest.specs.declared.rows.View32Row.{View32Row}
use Rattle.dest.specs.Rows.{rows16, rows32, view16, view32, row16_of, row32_of}

pub in_view16 : (n : ℕ) (r : Option View16Row) → r ≡ row16_of n → n < rows16 → r ≡ Some (view16 n)
in_view16 n r e h = rw (lt-ltb n rows16 h) at e

pub in_view32 : (n : ℕ) (r : Option View32Row) → r ≡ row32_of n → n < rows32 → r ≡ Some (view32 n)
in_view32 n r e h = rw (lt-ltb n rows32 h) at e
