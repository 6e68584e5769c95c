-- A write and then a read in one view: what both views have in common.
use Prim.Native.Nat.{ℕ, ◌≤◌, ◌<◌}
use mathlib.Core.List.{List}
use mathlib.Core.Path.{◌≡◌, refl, sym, ap, ◌∙◌}
use lib.Dec.{eqb}
use lib.ListN.{length}
use borrow.Author.Tests.{eqb-true}
use Rattle.bits.specs.Overwrite.{over}
use Rattle.machine.specs.Sizes.{row_cells}
use Rattle.machine.specs.Answers.{Told, accepted, Call, call, checked}
use Rattle.machine.specs.Machine.{Dest}
use Rattle.bench_dest.specs.DestRows.{row_check, output_check, cells_check}
use Rattle.machine.proofs.Checks.{checked_answer, checked_after, checked_alike, provided_test, provided_rest}
use Rattle.bench_dest.proofs.Facts.{dest_facts}
use Rattle.bench_dest.proofs.StoredRows.{Sized}
use Rattle.bench_dest.proofs.Views.{read_filled}

module _ (config : List ℕ) (s : Dest) (bank row rows : ℕ) (cells : List ℕ) where
  abbrev pub write_check : Told (Unit {0})
  write_check = cells_check cells (row_check config s bank row rows (accepted tt))

  pub record WriteFacts : Type 0 where
    pub sized : Sized s
    pub row_in : row < rows
    pub long : length cells ≡ row_cells
    pub row_found : accepted tt ≡ row_check config s bank row rows (accepted tt)

  pub write_facts : accepted tt ≡ write_check → WriteFacts
  write_facts e =
      let n = eqb (length cells) row_cells in
      let rest : Told (Unit {0}) = row_check config s bank row rows (accepted tt) in
      let h = sym (provided_rest n 4 rest tt (sym e)) in
      let f = dest_facts (length config) (length s.cells) (length s.marks) bank row rows (accepted tt) tt h in
      record {
        sized = record { cells = f.dest_long; marks = f.marks_long };
        row_in = f.row_in;
        long = eqb-true (length cells) row_cells (provided_test n 4 rest tt (sym e));
        row_found = h;
      }

-- a view: `seen` is what a read of a row gives, and t the store after an accepted write of `cells` to `row`
module _ (config : List ℕ) (s : Dest) (bank rows : ℕ) (seen : Dest → ℕ → List ℕ) (row : ℕ) (cells : List ℕ) (t : Dest)
    (sized : accepted tt ≡ write_check config s bank row rows cells → Sized t) where
  abbrev read : Dest → ℕ → List ℕ → Call (List ℕ)
  read u r out = checked (row_check config u bank r rows (output_check out)) out (over out 0 (seen u r))

  abbrev written : Call Dest
  written = checked (write_check config s bank row rows cells) s t

  pub read_back : (out : List ℕ) → (accepted tt ≡ write_check config s bank row rows cells → seen t row ≡ cells) → written.answer ≡ accepted tt → row_cells ≤ length out → read written.after row out ≡ call (accepted tt) (over out 0 cells)
  read_back out back h k =
      let e : accepted tt ≡ write_check config s bank row rows cells = sym h ∙ checked_answer (write_check config s bank row rows cells) s t in
      let f = write_facts config s bank row rows cells e in
      let z = sized e in
      let d = z.cells ∙ sym f.sized.cells in
      let m = z.marks ∙ sym f.sized.marks in
      rw (← e, back e, d, m) (sym (read_filled config s bank row rows tt out (over out 0 cells) f.row_found k))

  pub others_left_lem : (r : ℕ) (out : List ℕ) → (accepted tt ≡ write_check config s bank row rows cells → r < rows → seen t r ≡ seen s r) → read written.after r out ≡ read s r out
  others_left_lem r out left =
      checked_after (λ (u : Dest). read u r out ≡ read s r out) (write_check config s bank row rows cells) s t refl
      (λ e.
      let f = write_facts config s bank row rows cells e in
      let z = sized e in
      let d = z.cells ∙ sym f.sized.cells in
      let m = z.marks ∙ sym f.sized.marks in
      rw (d, m)
      (checked_alike (row_check config s bank r rows (output_check out)) out (over out 0 (seen t r)) (over out 0 (seen s r))
      (λ a. ap (over out 0) (left e (dest_facts (length config) (length s.cells) (length s.marks) bank r rows (output_check out) tt a).row_in))))
