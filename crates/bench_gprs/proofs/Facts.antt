-- What is known of a call that its checks accept.
use Prim.Native.Nat.{ℕ, ◌≤◌}
use mathlib.Core.Path.{◌≡◌, sym}
use lib.Dec.{eqb, leb}
use borrow.Author.Tests.{eqb-true, leb-true}
use Rattle.machine.specs.Sizes.{gpr_count}
use Rattle.machine.specs.Answers.{Told, accepted, provided}
use Rattle.machine.proofs.Checks.{before, provided_before, provided_test, provided_rest}
use Rattle.bench_gprs.specs.Gprs.{gpr_check}

-- the check may be made first
module _ {A B : Type 0} (a : A) (x : Told B) where
  pub gpr_before : (count thread register : ℕ) → gpr_check count thread register x ≡ before (gpr_check count thread register (accepted a)) x
  unfolding gpr_check
  gpr_before count thread register = simp provided_before

pub record GprFacts {A : Type 0} (count thread register : ℕ) (x : Told A) (b : A) : Type 0 where
  pub all : count ≡ gpr_count
  pub thread_in : thread ≤ 2
  pub register_in : register ≤ 63
  pub rest : x ≡ accepted b

pub gpr_facts : {A : Type 0} (count thread register : ℕ) (x : Told A) (b : A) → accepted b ≡ gpr_check count thread register x → GprFacts count thread register x b
unfolding gpr_check
gpr_facts count thread register x b e =
    let n = eqb count gpr_count in
    let t = leb thread 2 in
    let r = leb register 63 in
    let x1 = provided r 11 x in
    let x2 = provided t 1 x1 in
    let e1 = provided_rest n 4 x2 b (sym e) in
    let e2 = provided_rest t 1 x1 b e1 in
    record {
      all = eqb-true count gpr_count (provided_test n 4 x2 b (sym e));
      thread_in = leb-true thread 2 (provided_test t 1 x1 b e1);
      register_in = leb-true register 63 (provided_test r 11 x b e2);
      rest = provided_rest r 11 x b e2;
    }
