-- A read whose row is found: the same for both views.
use Prim.Native.Nat.{ℕ, ◌≤◌}
use mathlib.Core.List.{List}
use mathlib.Core.Path.{◌≡◌}
use lib.ListN.{length}
use borrow.Author.Tests.{le-leb}
use Rattle.machine.specs.Sizes.{row_cells}
use Rattle.machine.specs.Answers.{Told, accepted, call, checked}
use Rattle.machine.specs.Machine.{Dest}
use Rattle.bench_dest.specs.DestRows.{dest_check, row_check, output_check}
use Rattle.machine.proofs.Checks.{whole_found, checked_found}
use Rattle.bench_dest.proofs.Facts.{dest_before}

module _ {A : Type 0} (config : List ℕ) (s : Dest) (bank row rows : ℕ) (x : A) where
  abbrev looked : Told A
  looked = dest_check (length config) (length s.cells) (length s.marks) bank row rows (accepted x)

  rest_before : (rest : Told (Unit {0})) → {b : A} → accepted b ≡ looked → rest ≡ row_check config s bank row rows rest
  rest_before rest h = whole_found rest (dest_before x rest (length config) (length s.cells) (length s.marks) bank row rows) h

  pub read_filled : (out v : List ℕ) {b : A} → accepted b ≡ looked → row_cells ≤ length out → call (accepted tt) v ≡ checked (row_check config s bank row rows (output_check out)) out v
  read_filled out v h k = rw (le-leb row_cells (length out) k) (checked_found out v (rest_before (accepted tt) h))
