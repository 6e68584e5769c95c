-- What is written to a source row is shown, and every other row is shown as before.
use Prim.Native.Nat.{ℕ, ◌+◌, ◌*◌, ◌≤◌}
use mathlib.Core.Bool.{Bool, true, false, cond}
use mathlib.Core.List.{List, []}
use mathlib.Core.Path.{◌≡◌, refl, sym, ◌∙◌}
use native.Mathlib.Omega.{arith}
use lib.Dec.{eqb}
use lib.ListN.{length, take, drop}
use borrow.Author.Tests.{eq-eqb, le-leb, eqb-true, eqb-false}
use Rattle.bits.proofs.Overwrite.{over_long}
use Rattle.bits.specs.Overwrite.{over}
use Rattle.machine.proofs.ControlFacts.{pointer_at}
use Rattle.machine.specs.Sizes.{source_rows, row_cells, source_count}
use Rattle.machine.specs.declared.control.Control.{Control}
use Rattle.machine.specs.Control.{unpack_bank}
use Rattle.machine.specs.Answers.{accepted}
use Rattle.bench_sources.specs.Promises.{SourcePromises}
use Rattle.machine.specs.Places.{row_place}
use Rattle.bench_sources.specs.Sources.{Sources, source_check, with_source_row, write_source_row_of, can_show, shown_row}
use Rattle.machine.proofs.Checks.{checked_answer, checked_after}
use Rattle.bench_sources.proofs.Facts.{SourceFacts, source_facts, ShowFacts, show_facts}
use Rattle.bench_cells.proofs.Rows.{row_same, row_other}

can : {a b file bank row : ℕ} → a ≡ source_count → b ≡ source_count → file ≤ 1 → bank ≤ 1 → row ≤ 63 → can_show a b file bank row ≡ true
unfolding can_show
can {a} {b} {file} {bank} {row} h i j k l =
    rw (eq-eqb a source_count h, eq-eqb b source_count i, le-leb file 1 j, le-leb bank 1 k, le-leb row 63 l)

-- what is shown matters only where it may be shown
cond_alike : (b : Bool) (x y : List ℕ) → (b ≡ true → x ≡ y) → cond b x [] ≡ cond b y []
cond_alike true x y h = h refl
cond_alike false x y h = refl

-- an accepted write: the row that is written is row k of its store
module _ (c : Control) (s : Sources) (file row : ℕ) (cells : List ℕ) (e : accepted tt ≡ source_check c s file row cells) where
  f : SourceFacts c s file row cells
  f = source_facts c s file row cells e

  abbrev bank : ℕ
  bank = unpack_bank c file

  bank_in : bank ≤ 1
  bank_in = pointer_at c (2 + file) f.formed

  abbrev k : ℕ
  k = bank * source_rows + row

  abbrev after : Sources
  after = with_source_row s file bank row cells

  inside : (l : List ℕ) → length l ≡ source_count → k * row_cells + row_cells ≤ length l
  inside l h = omega (arith, bank_in, f.row_in)

  long : (l : List ℕ) → length l ≡ source_count → length (over l (k * row_cells) cells) ≡ source_count
  long l h = over_long l (k * row_cells) cells (omega (arith, inside l h, f.cells_long)) ∙ h

  after_long : (length after.src_a ≡ source_count) × (length after.src_b ≡ source_count)
  unfolding with_source_row
  after_long = go (eqb file 0)
    where
      go : (t : Bool) → (length (cond t (over s.src_a (k * row_cells) cells) s.src_a) ≡ source_count) × (length (cond t s.src_b (over s.src_b (k * row_cells) cells)) ≡ source_count)
      go true = (long s.src_a f.a_long, f.b_long)
      go false = (f.a_long, long s.src_b f.b_long)

  shown : shown_row after.src_a after.src_b file bank row ≡ cells
  unfolding shown_row with_source_row
  shown = rw (can after_long.0 after_long.1 f.file_in bank_in f.row_in) (go (eqb file 0))
    where
      go : (t : Bool) → take row_cells (drop (k * row_cells) (cond t (cond t (over s.src_a (k * row_cells) cells) s.src_a) (cond t s.src_b (over s.src_b (k * row_cells) cells)))) ≡ cells
      go true = row_same s.src_a k cells f.cells_long (inside s.src_a f.a_long)
      go false = row_same s.src_b k cells f.cells_long (inside s.src_b f.b_long)

  -- a row of the same file is another row of its store
  same_row : (file' bank' row' : ℕ) → ((file ≡ file') × (bank ≡ bank') × (row ≡ row') → ⊥) → file ≡ file' → row' ≤ 63 → bank' * source_rows + row' ≡ k → ⊥
  same_row file' bank' row' n h l m =
      let r : row ≡ row' = omega (arith, f.row_in) in
      let b : bank ≡ bank' = omega arith in
      n (h, b, r)

  others : (file' bank' row' : ℕ) → ((file ≡ file') × (bank ≡ bank') × (row ≡ row') → ⊥) → shown_row after.src_a after.src_b file' bank' row' ≡ shown_row s.src_a s.src_b file' bank' row'
  unfolding shown_row with_source_row
  others file' bank' row' n =
      rw (after_long.0, after_long.1, f.a_long, f.b_long)
      (cond_alike (can_show source_count source_count file' bank' row') _ _
      (λ t. go (eqb file 0) (eqb file' 0) refl refl (show_facts source_count source_count file' bank' row' t)))
    where
      k' : ℕ
      k' = bank' * source_rows + row'

      go : (t u : Bool) → eqb file 0 ≡ t → eqb file' 0 ≡ u → ShowFacts source_count source_count file' bank' row' →
          take row_cells (drop (row_place bank' row') (cond u (cond t (over s.src_a (k * row_cells) cells) s.src_a) (cond t s.src_b (over s.src_b (k * row_cells) cells))))
          ≡ take row_cells (drop (row_place bank' row') (cond u s.src_a s.src_b))
      go true true p q w = row_other s.src_a k cells f.cells_long (inside s.src_a f.a_long) (bank' * source_rows + row') (same_row file' bank' row' n (eqb-true file 0 p ∙ sym (eqb-true file' 0 q)) w.row_in)
      go true false p q w = refl
      go false true p q w = refl
      go false false p q w = row_other s.src_b k cells f.cells_long (inside s.src_b f.b_long) (bank' * source_rows + row') (same_row file' bank' row' n (omega (arith, eqb-false file 0 p, eqb-false file' 0 q, f.file_in, w.file_in)) w.row_in)

pub source_promises : SourcePromises
unfolding write_source_row_of
source_promises =
    record {
      shown_back = λ c s file row cells h.
          let whole = source_check c s file row cells in
          let t = with_source_row s file (unpack_bank c file) row cells in
          let e : accepted tt ≡ whole = sym h ∙ checked_answer whole s t in
          rw (← e) (shown c s file row cells e);
      others_shown = λ c s file row cells file' bank' row' n.
          checked_after (λ (u : Sources). shown_row u.src_a u.src_b file' bank' row' ≡ shown_row s.src_a s.src_b file' bank' row')
          (source_check c s file row cells) s (with_source_row s file (unpack_bank c file) row cells) refl
          (λ e. others c s file row cells e file' bank' row' n);
    }
