-- What is known of a call that its checks accept.
use Prim.Native.Nat.{ℕ, ◌≤◌, ◌<◌}
use mathlib.Core.Bool.{true, ◌&&◌}
use mathlib.Core.List.{List}
use mathlib.Core.Path.{◌≡◌, sym}
use native.Mathlib.Omega.{arith}
use lib.Dec.{eqb, leb}
use lib.ListN.{length}
use borrow.Author.Tests.{eqb-true, leb-true}
use Rattle.bits.proofs.Choices.{and_left, and_right}
use Rattle.bits.specs.Ranges.{all_at_most}
use Rattle.machine.specs.Formed.{control_formed}
use Rattle.machine.specs.Sizes.{source_count, row_cells, cell_most}
use Rattle.machine.specs.declared.control.Control.{Control}
use Rattle.machine.specs.Control.{unpackers_own}
use Rattle.machine.specs.Answers.{Told, accepted, provided}
use Rattle.machine.proofs.Checks.{provided_test, provided_rest}
use Rattle.bench_sources.specs.Sources.{Sources, sources_sized, sources_formed, row_in_range, source_check, can_show}

pub record SourceFacts (c : Control) (s : Sources) (file row : ℕ) (cells : List ℕ) : Type 0 where
  pub a_long : length s.src_a ≡ source_count
  pub b_long : length s.src_b ≡ source_count
  pub cells_long : length cells ≡ row_cells
  pub formed : control_formed c ≡ true
  pub file_in : file ≤ 1
  pub row_in : row ≤ 63

pub source_facts : (c : Control) (s : Sources) (file row : ℕ) (cells : List ℕ) → accepted tt ≡ source_check c s file row cells → SourceFacts c s file row cells
unfolding source_check sources_sized sources_formed row_in_range
source_facts c s file row cells e =
    let a = eqb (length s.src_a) source_count in
    let b = eqb (length s.src_b) source_count in
    let n = eqb (length cells) row_cells in
    let w = all_at_most cell_most s.src_a && all_at_most cell_most s.src_b in
    let i = leb file 1 in
    let r = leb row 63 in
    let v = all_at_most cell_most cells in
    let x1 : Told (Unit {0}) = provided (unpackers_own c file) 12 (accepted tt) in
    let x2 = provided (i && (r && v)) 11 x1 in
    let x3 = provided (control_formed c && w) 10 x2 in
    let e1 = provided_rest (a && (b && n)) 4 x3 tt (sym e) in
    let e2 = provided_rest (control_formed c && w) 10 x2 tt e1 in
    let h = provided_test (a && (b && n)) 4 x3 tt (sym e) in
    let g = and_right a (b && n) h in
    let p = provided_test (i && (r && v)) 11 x1 tt e2 in
    record {
      a_long = eqb-true (length s.src_a) source_count (and_left a (b && n) h);
      b_long = eqb-true (length s.src_b) source_count (and_left b n g);
      cells_long = eqb-true (length cells) row_cells (and_right b n g);
      formed = and_left (control_formed c) w (provided_test (control_formed c && w) 10 x2 tt e1);
      file_in = leb-true file 1 (and_left i (r && v) p);
      row_in = leb-true row 63 (and_left r v (and_right i (r && v) p));
    }

-- the control part and the file are in range before the owner is asked
pub owner_asked : (c : Control) (s : Sources) (file row : ℕ) (cells : List ℕ) → sources_formed c s ≡ true → row_in_range file row cells ≡ true → (control_formed c ≡ true) × (file < 2)
unfolding sources_formed row_in_range
owner_asked c s file row cells h k =
    let f = leb-true file 1 (and_left (leb file 1) (leb row 63 && all_at_most cell_most cells) k) in
    (and_left (control_formed c) (all_at_most cell_most s.src_a && all_at_most cell_most s.src_b) h, omega arith)

pub record ShowFacts (a b file bank row : ℕ) : Type 0 where
  pub a_long : a ≡ source_count
  pub b_long : b ≡ source_count
  pub file_in : file ≤ 1
  pub bank_in : bank ≤ 1
  pub row_in : row ≤ 63

pub show_facts : (a b file bank row : ℕ) → can_show a b file bank row ≡ true → ShowFacts a b file bank row
unfolding can_show
show_facts a b file bank row h =
    let m = eqb a source_count in
    let n = eqb b source_count in
    let k = leb bank 1 && leb row 63 in
    let l = and_left (m && n) (leb file 1 && k) h in
    let g = and_right (m && n) (leb file 1 && k) h in
    let p = and_right (leb file 1) k g in
    record {
      a_long = eqb-true a source_count (and_left m n l);
      b_long = eqb-true b source_count (and_right m n l);
      file_in = leb-true file 1 (and_left (leb file 1) k g);
      bank_in = leb-true bank 1 (and_left (leb bank 1) (leb row 63) p);
      row_in = leb-true row 63 (and_right (leb bank 1) (leb row 63) p);
    }
