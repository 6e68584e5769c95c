-- What is known of a call that its checks accept.
use Prim.Native.Nat.{ℕ, ◌≤◌, ◌<◌}
use mathlib.Core.Bool.{◌&&◌}
use mathlib.Core.Path.{◌≡◌, sym}
use lib.Dec.{eqb, leb, ltb}
use borrow.Author.Tests.{eqb-true, leb-true, ltb-true}
use Rattle.bits.proofs.Choices.{and_left, and_right}
use Rattle.machine.specs.Sizes.{config_count, dest_count, mark_count}
use Rattle.machine.specs.Answers.{Told, accepted, provided}
use Rattle.machine.proofs.Checks.{before, provided_before, provided_test, provided_rest}
use Rattle.bench_dest.specs.DestRows.{bank_check, dest_check}

-- the checks may be made first
module _ {A B : Type 0} (a : A) (x : Told B) where
  pub dest_before : (words cells marks bank row rows : ℕ) → dest_check words cells marks bank row rows x ≡ before (dest_check words cells marks bank row rows (accepted a)) x
  unfolding bank_check
  dest_before words cells marks bank row rows = simp provided_before

pub record DestFacts {A : Type 0} (words cells marks bank row rows : ℕ) (x : Told A) (b : A) : Type 0 where
  pub config_long : words ≡ config_count
  pub dest_long : cells ≡ dest_count
  pub marks_long : marks ≡ mark_count
  pub bank_in : bank ≤ 1
  pub row_in : row < rows
  pub rest : x ≡ accepted b

pub dest_facts : {A : Type 0} (words cells marks bank row rows : ℕ) (x : Told A) (b : A) → accepted b ≡ dest_check words cells marks bank row rows x → DestFacts words cells marks bank row rows x b
unfolding bank_check
dest_facts words cells marks bank row rows x b e =
    let w = eqb words config_count in
    let d = eqb cells dest_count in
    let m = eqb marks mark_count in
    let k = leb bank 1 in
    let r = ltb row rows in
    let x1 = provided r 11 x in
    let x2 = provided k 11 x1 in
    let e1 = provided_rest (w && (d && m)) 4 x2 b (sym e) in
    let e2 = provided_rest k 11 x1 b e1 in
    let h = provided_test (w && (d && m)) 4 x2 b (sym e) in
    let g = and_right w (d && m) h in
    record {
      config_long = eqb-true words config_count (and_left w (d && m) h);
      dest_long = eqb-true cells dest_count (and_left d m g);
      marks_long = eqb-true marks mark_count (and_right d m g);
      bank_in = leb-true bank 1 (provided_test k 11 x1 b e1);
      row_in = ltb-true row rows (provided_test r 11 x b e2);
      rest = provided_rest r 11 x b e2;
    }
