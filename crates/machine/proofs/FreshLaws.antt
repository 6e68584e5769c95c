-- A fresh machine is well formed, and each of its entries is zero.
use Prim.Native.Nat.{ℕ, zero, suc}
use mathlib.Core.Path.{◌≡◌, refl}
use mathlib.Core.Bool.{true, false}
use native.Mathlib.Omega.{arith}
use lib.Dec.{eqb}
use lib.ListN.{length, get_or, replicate, length-replicate}
use borrow.Author.Tests.{eq-eqb}
use Rattle.bits.specs.Ranges.{all_at_most}
use Rattle.bits.proofs.Ranges.{at_most_replicate}
use Rattle.machine.specs.Sizes.{gpr_count, setting_count, config_count, dest_count, mark_count, source_count, half_most, cell_most, word_most}
use Rattle.machine.specs.Formed.{control_formed, semaphores_formed, stores_sized, stores_formed, well_formed}
use Rattle.machine.specs.Fresh.{fresh_control, fresh_stores, fresh_machine, EveryZero}

-- each entry of n times a, and past the end, is a
pub replicate_at : {A : Type 0} (n i : ℕ) (a : A) → get_or (replicate n a) i a ≡ a
replicate_at zero zero a = refl
replicate_at zero (suc i) a = refl
replicate_at (suc n) zero a = refl
replicate_at (suc n) (suc i) a = replicate_at n i a

pub fresh_zero : EveryZero fresh_machine
unfolding fresh_machine fresh_stores
fresh_zero =
    record {
      settings = λ i. replicate_at setting_count i 0;
      gprs = λ i. replicate_at gpr_count i 0;
      config = λ i. replicate_at config_count i 0;
      dest = λ i. replicate_at dest_count i 0;
      marks = λ i. replicate_at mark_count i false;
      src_a = λ i. replicate_at source_count i 0;
      src_b = λ i. replicate_at source_count i 0;
    }

long : (n : ℕ) → eqb (length (replicate {A = ℕ} n 0)) n ≡ true
long n = eq-eqb (length (replicate {A = ℕ} n 0)) n (length-replicate n 0)

marks_long : (n : ℕ) → eqb (length (replicate n false)) n ≡ true
marks_long n = eq-eqb (length (replicate n false)) n (length-replicate n false)

low : (n k : ℕ) → all_at_most n (replicate k 0) ≡ true
low n k = at_most_replicate n k 0 (omega arith)

fresh_control_formed : control_formed fresh_control ≡ true
unfolding control_formed semaphores_formed
fresh_control_formed = rw (low 3 8, low 1 4)

fresh_sized : stores_sized fresh_stores ≡ true
unfolding fresh_stores stores_sized
fresh_sized = rw (long gpr_count, long config_count, long dest_count, marks_long mark_count, long source_count)

fresh_stores_formed : stores_formed fresh_stores ≡ true
unfolding fresh_stores stores_formed
fresh_stores_formed = rw (low word_most gpr_count, low word_most config_count, low half_most dest_count, low cell_most source_count)

pub fresh_formed : well_formed fresh_machine ≡ true
unfolding fresh_machine
fresh_formed = rw (long setting_count, fresh_sized, fresh_control_formed, low half_most setting_count, fresh_stores_formed)
