-- The loops over the semaphores of a mask, whose lowest bit is the first one's.
use Prim.Native.Nat.{ℕ, suc, ◌+◌, ◌/◌, ◌≤◌, ◌<◌}
use mathlib.Core.Path.{◌≡◌, refl, sym, ap, ◌∙◌}
use mathlib.Core.Bool.{Bool, true, false, cond, ◌&&◌, ◌||◌}
use mathlib.Core.List.{List, ◌++◌, append_assoc, append-nil}
use native.Mathlib.Nat.{le_refl}
use native.Mathlib.Numerals.{add-one}
use native.Mathlib.Omega.{arith}
use lib.Dec.{eqb}
use borrow.Author.Tests.{ne_eqb}
use Rattle.bits.specs.Field.{low_bit}
use lib.ListN.{length, get_or, drop, take, set}
use lib.Seq.{drop-cons, drop-length, take-length, take-suc-set, drop-set-lt}
use Rattle.machine.specs.declared.control.Semaphore.{Semaphore}
use Rattle.machine.proofs.Semaphores.{zero_semaphore}
use Rattle.word_rules.specs.declared.semaphore_change.SemaphoreChange.{SemaphoreChange}
use Rattle.std.specs.Prelude.{Option, Some, None}
use Rattle.word_rules.specs.SyncWords.{masked_change, change_masked}
use Rattle.word_rules.specs.Waits.{held_if, meets, masked_meets, semaphore_cause, semaphore_held}
use Rattle.word_rules.specs.Offered.{meets_as}

-- the cause of semaphore n, and where there is none
cause_from : (k n : ℕ) (s : Semaphore) → semaphore_cause k s n ≡ n + semaphore_cause k s 0
cause_from k n s = go ((eqb k 1 || eqb k 3) && eqb s.value 0)
  where
    go : (b : Bool) → cond b (n + 16) (n + 24) ≡ n + cond b (0 + 16) (0 + 24)
    go true = refl
    go false = refl

cause_some : (k : ℕ) (s : Semaphore) → semaphore_cause k s 0 ≡ 0 → ⊥
cause_some k s = go ((eqb k 1 || eqb k 3) && eqb s.value 0)
  where
    go : (b : Bool) → cond b (0 + 16) (0 + 24) ≡ 0 → ⊥
    go true e = omega (arith, e)
    go false e = omega (arith, e)

-- by conditions 1 and 3, zero comes first
pub as_zero_lem : (zero : Bool) → ◌≡◌ {A = ℕ} (cond zero 16 0) (cond zero (cond zero 16 24) 0)
as_zero_lem true = refl
as_zero_lem false = refl

pub as_either : (zero full : Bool) → ◌≡◌ {A = ℕ} (cond zero 16 (cond full 24 0)) (cond (zero || full) (cond zero 16 24) 0)
as_either true full = refl
as_either false true = refl
as_either false false = refl

pub as_small : (k : ℕ) (s : Semaphore) (named : Bool) → cond named (meets_as k s) 0 ≤ 24
as_small k s named = go named (meets k s) ((eqb k 1 || eqb k 3) && eqb s.value 0)
  where
    go : (b d z : Bool) → cond b (cond d (cond z (0 + 16) (0 + 24)) 0) 0 ≤ 24
    go true true true = omega arith
    go true true false = omega arith
    go true false z = omega arith
    go false d z = omega arith

-- one turn of the search, by as what the semaphore is held
held_by : (k m n : ℕ) (s : Semaphore) (rest : Option ℕ) →
    held_if (masked_meets k s m) (semaphore_cause k s n) rest ≡ cond (eqb (cond (low_bit m) (meets_as k s) 0) 0) rest (Some (n + cond (low_bit m) (meets_as k s) 0))
held_by k m n s rest = go (low_bit m) (meets k s)
  where
    go : (b d : Bool) → held_if (b && d) (semaphore_cause k s n) rest
        ≡ cond (eqb (cond b (cond d (semaphore_cause k s 0) 0) 0) 0) rest (Some (n + cond b (cond d (semaphore_cause k s 0) 0) 0))
    go true true = rw (ne_eqb (semaphore_cause k s 0) 0 (cause_some k s), cause_from k n s)
    go true false = refl
    go false d = refl

pub held_step : (k : ℕ) (l : List Semaphore) (i m a : ℕ) → i < length l → a ≡ cond (low_bit m) (meets_as k (get_or l i zero_semaphore)) 0 →
    semaphore_held k (drop i l) m i ≡ cond (eqb a 0) (semaphore_held k (drop (i + 1) l) (m / 2) (i + 1)) (Some (i + a))
unfolding semaphore_held
held_step k l i m a h e =
    let s = get_or l i zero_semaphore in
    rw (drop-cons l i zero_semaphore h, e)
    (ap (λ (n : ℕ). held_if (masked_meets k s m) (semaphore_cause k s i) (semaphore_held k (drop n l) (m / 2) (i + 1))) (sym (add-one i))
    ∙ held_by k m i s (semaphore_held k (drop (i + 1) l) (m / 2) (i + 1)))

pub held_end : (k : ℕ) (l : List Semaphore) (i m : ℕ) → length l ≤ i → i ≤ length l → semaphore_held k (drop i l) m i ≡ None
unfolding semaphore_held
held_end k l i m h j = let e : i ≡ length l = omega arith in rw (e, drop-length)

-- one turn of the change, and its end
pub change_step : (k : SemaphoreChange) (l : List Semaphore) (i m : ℕ) (s : Semaphore) → i < length l → s ≡ masked_change k (get_or l i zero_semaphore) m →
    take i l ++ change_masked k (drop i l) m ≡ take (i + 1) (set l i s) ++ change_masked k (drop (i + 1) (set l i s)) (m / 2)
unfolding change_masked
change_step k l i m s h e =
    rw (add-one, take-suc-set l i s h, drop-set-lt (suc i) l i s (le_refl _), drop-cons l i zero_semaphore h, append_assoc, e)

pub change_end : (k : SemaphoreChange) (l : List Semaphore) (i m : ℕ) → i ≡ length l → take i l ++ change_masked k (drop i l) m ≡ l
unfolding change_masked
change_end k l i m e = rw (e, take-length, drop-length, append-nil)
