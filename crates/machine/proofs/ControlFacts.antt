-- What a well-formed control part has, one fact each, and back.
use Prim.Native.Nat.{ℕ, ◌≤◌}
use mathlib.Core.Path.{◌≡◌}
use mathlib.Core.Bool.{Bool, true, ◌&&◌}
use mathlib.Core.List.{List}
use lib.Dec.{eqb}
use lib.ListN.{length, get_or}
use borrow.Author.Tests.{eqb-true, eq-eqb}
use Rattle.bits.specs.Ranges.{all_at_most}
use Rattle.bits.proofs.Choices.{and_left, and_right, and_intro}
use Rattle.bits.proofs.Ranges.{at_most_at}
use Rattle.machine.specs.declared.control.Wait.{Wait}
use Rattle.machine.specs.declared.control.Semaphore.{Semaphore}
use Rattle.machine.specs.declared.control.Control.{Control}
use Rattle.machine.specs.Sizes.{mutex_count, semaphore_count, bank_count, pointer_count, holder_most}
use Rattle.machine.specs.Formed.{wait_formed, semaphores_formed, mutexes_formed, banks_formed, waits_formed, control_formed}

-- so many numbers, each at most `most`
pub record Numbers (count most : ℕ) (l : List ℕ) : Type 0 where
  pub long : length l ≡ count
  pub range : all_at_most most l ≡ true

pub record SemaphoreFacts (l : List Semaphore) : Type 0 where
  pub long : length l ≡ semaphore_count
  pub range : semaphores_formed l ≡ true

-- the waits of threads 0, 1 and 2
pub record WaitFacts (w0 w1 w2 : Wait) : Type 0 where
  pub wait0 : wait_formed w0 ≡ true
  pub wait1 : wait_formed w1 ≡ true
  pub wait2 : wait_formed w2 ≡ true

pub record ControlFacts (c : Control) : Type 0 where
  pub mutexes : Numbers mutex_count holder_most c.mutexes
  pub semaphores : SemaphoreFacts c.semaphores
  pub owners : Numbers bank_count 1 c.owners
  pub pointers : Numbers pointer_count 1 c.pointers
  pub waits : WaitFacts c.t0.wait c.t1.wait c.t2.wait

-- a length and a range as one test
sized_left : (n k : ℕ) (b : Bool) → (eqb n k && b) ≡ true → n ≡ k
sized_left n k b h = eqb-true n k (and_left (eqb n k) b h)

numbers_from : (count most : ℕ) (l : List ℕ) → (eqb (length l) count && all_at_most most l) ≡ true → Numbers count most l
numbers_from count most l h = record { long = sized_left (length l) count _ h; range = and_right (eqb (length l) count) (all_at_most most l) h }

numbers_test : (count most : ℕ) (l : List ℕ) → Numbers count most l → (eqb (length l) count && all_at_most most l) ≡ true
numbers_test count most l f = and_intro (eqb (length l) count) (all_at_most most l) (eq-eqb _ _ f.long) f.range

pub control_facts : (c : Control) → control_formed c ≡ true → ControlFacts c
unfolding control_formed
control_facts c h =
    let m = mutexes_formed c in
    let s = eqb (length c.semaphores) semaphore_count && semaphores_formed c.semaphores in
    let o = eqb (length c.owners) bank_count && all_at_most 1 c.owners in
    let p = eqb (length c.pointers) pointer_count && all_at_most 1 c.pointers in
    let w = waits_formed c in
    let w0 = wait_formed c.t0.wait in
    let w1 = wait_formed c.t1.wait in
    let w2 = wait_formed c.t2.wait in
    let h1 = and_right m (s && (banks_formed c && w)) h in
    let h2 = and_right s (banks_formed c && w) h1 in
    let hs = and_left s (banks_formed c && w) h1 in
    let hb = and_left (banks_formed c) w h2 in
    let hw = and_right (banks_formed c) w h2 in
    record {
      mutexes = numbers_from mutex_count holder_most c.mutexes (and_left m (s && (banks_formed c && w)) h);
      semaphores = record { long = sized_left (length c.semaphores) semaphore_count _ hs; range = and_right (eqb (length c.semaphores) semaphore_count) (semaphores_formed c.semaphores) hs };
      owners = numbers_from bank_count 1 c.owners (and_left o p hb);
      pointers = numbers_from pointer_count 1 c.pointers (and_right o p hb);
      waits = record { wait0 = and_left w0 (w1 && w2) hw; wait1 = and_left w1 w2 (and_right w0 (w1 && w2) hw); wait2 = and_right w1 w2 (and_right w0 (w1 && w2) hw) };
    }

pub control_formed_lem : (c : Control) → ControlFacts c → control_formed c ≡ true
unfolding control_formed
control_formed_lem c f =
    let s = f.semaphores in
    let w = f.waits in
    rw (numbers_test _ _ _ f.mutexes, eq-eqb _ _ s.long, s.range, numbers_test _ _ _ f.owners, numbers_test _ _ _ f.pointers, w.wait0, w.wait1, w.wait2)

-- a bank pointer is 0 or 1
pub pointer_at : (c : Control) (i : ℕ) → control_formed c ≡ true → get_or c.pointers i 0 ≤ 1
pointer_at c i h = at_most_at 1 c.pointers i (control_facts c h).pointers.range
