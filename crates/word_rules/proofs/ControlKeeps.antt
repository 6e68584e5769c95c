-- A word that passes keeps a well-formed control part well formed.
use Prim.Native.Nat.{ℕ, suc, ◌+◌, ◌-◌, ◌≤◌, ◌<◌, ◌/◌}
use mathlib.Core.Path.{◌≡◌, refl, ap, ◌∙◌}
use mathlib.Core.Bool.{Bool, true, false, ◌&&◌}
use mathlib.Core.List.{List, [], ◌∷◌}
use native.Mathlib.Omega.{arith}
use lib.Dec.{leb, ltb, eqb}
use lib.ListN.{length, set, get_or, length-set, length-replicate, replicate}
use borrow.Author.Tests.{le-leb, leb-true, ltb-true}
use Rattle.bits.specs.Field.{low_bit}
use Rattle.bits.proofs.Choices.{and_left, and_right, and_intro, cond_both, cond_cases}
use Rattle.bits.proofs.Ranges.{at_most_set, at_most_replicate}
use Rattle.machine.specs.declared.control.Wait.{Wait}
use Rattle.machine.specs.declared.control.Wait.TheVariants.{Clear, OnStall, OnSemaphore}
use Rattle.machine.specs.declared.control.Thread.{Thread}
use Rattle.machine.specs.declared.control.Semaphore.{Semaphore}
use Rattle.machine.specs.declared.control.Control.{Control}
use Rattle.machine.specs.Sizes.{mutex_count, bank_count, pointer_count, holder_most, semaphore_most, block_most, conditions_most, mask_most, condition_most}
use Rattle.machine.specs.Control.{with_threads, with_thread, with_mutexes, with_semaphores, with_banks, with_wait, wait_of, unpack_bank, matrix_bank, owner_place, unpack_place, matrix_place}
use Rattle.machine.specs.Formed.{wait_formed, semaphores_formed, control_formed}
use Rattle.machine.proofs.ControlFacts.{Numbers, SemaphoreFacts, ControlFacts, control_facts, control_formed_lem}
use Rattle.word_rules.specs.declared.semaphore_change.SemaphoreChange.{SemaphoreChange}
use Rattle.word_rules.specs.declared.semaphore_change.SemaphoreChange.TheVariants.{Init, Up, Down}
use Rattle.word_rules.specs.declared.instruction.SyncWord.{SyncWord}
use Rattle.word_rules.specs.declared.instruction.SyncWord.TheVariants.{AtGetM, AtRelM, StallWait, SemInit, SemPost, SemGet, SemWait}
use Rattle.word_rules.specs.declared.instruction.BankWord.{BankWord}
use Rattle.word_rules.specs.declared.instruction.BankWord.TheVariants.{ClearDValid, SetDValid}
use Rattle.word_rules.specs.declared.instruction.Instruction.{Instruction}
use Rattle.word_rules.specs.declared.instruction.Instruction.TheVariants.{Nop, Cell, Bank, Scalar, Sync, Config}
use Rattle.word_rules.specs.SyncWords.{changed_by, masked_change, change_masked, sync_after}
use Rattle.word_rules.specs.BankWords.{give_to_matrix, give_to_unpackers, reset_banks, set_d_valid_after, clear_d_valid_after, bank_after}
use Rattle.word_rules.specs.Waits.{holds_now}
use Rattle.word_rules.specs.After.{drop_lifted, word_after, control_after}
use Rattle.word_rules.specs.InRange.{InRange, SyncInRange}
use Rattle.word_rules.specs.Offered.{dropped_if}

-- ---- numbers with one of them replaced
set_numbers : {count most : ℕ} {l : List ℕ} (i v : ℕ) → v ≤ most → Numbers count most l → Numbers count most (set l i v)
set_numbers {count} {most} {l} i v h f = record { long = length-set l i v ∙ f.long; range = at_most_set most l i v f.range h }

zeros : (count most : ℕ) → Numbers count most (replicate count 0)
zeros count most = record { long = length-replicate count 0; range = at_most_replicate most count 0 (omega arith) }

-- ---- one part replaced by one in range
module _ (c : Control) (f : ControlFacts c) where
  threads_facts : (a b d : Thread) → wait_formed a.wait ≡ true → wait_formed b.wait ≡ true → wait_formed d.wait ≡ true → ControlFacts (with_threads c a b d)
  threads_facts a b d x y z =
      record {
        mutexes = f.mutexes;
        semaphores = f.semaphores;
        owners = f.owners;
        pointers = f.pointers;
        waits = record { wait0 = x; wait1 = y; wait2 = z };
      }

  wait_facts : (t : ℕ) (w : Wait) → wait_formed w ≡ true → ControlFacts (with_wait c t w)
  unfolding with_thread
  wait_facts t w h =
      let g = f.waits in
      let x : Thread = record { wait = w } in
      cond_both ControlFacts (eqb t 0) (threads_facts x c.t1 c.t2 h g.wait1 g.wait2)
      (cond_both ControlFacts (eqb t 1) (threads_facts c.t0 x c.t2 g.wait0 h g.wait2)
      (threads_facts c.t0 c.t1 x g.wait0 g.wait1 h))

  mutexes_facts : {m : List ℕ} → Numbers mutex_count holder_most m → ControlFacts (with_mutexes c m)
  mutexes_facts n = record { mutexes = n; semaphores = f.semaphores; owners = f.owners; pointers = f.pointers; waits = f.waits }

  semaphores_facts : {s : List Semaphore} → SemaphoreFacts s → ControlFacts (with_semaphores c s)
  semaphores_facts n = record { mutexes = f.mutexes; semaphores = n; owners = f.owners; pointers = f.pointers; waits = f.waits }

  banks_facts : {o p : List ℕ} → Numbers bank_count 1 o → Numbers pointer_count 1 p → ControlFacts (with_banks c o p)
  banks_facts n q = record { mutexes = f.mutexes; semaphores = f.semaphores; owners = n; pointers = q; waits = f.waits }

-- ---- semaphores
abbrev ChangeInRange : SemaphoreChange → Type 0
ChangeInRange (Init value maximum) = (value ≤ semaphore_most) × (maximum ≤ semaphore_most)
ChangeInRange Up = Unit
ChangeInRange Down = Unit

abbrev SemaphoreInRange : Semaphore → Type 0
SemaphoreInRange s = (leb s.value semaphore_most && leb s.maximum semaphore_most) ≡ true

changed_in_range : (k : SemaphoreChange) (s : Semaphore) → ChangeInRange k → SemaphoreInRange s → SemaphoreInRange (changed_by k s)
changed_in_range (Init value maximum) s r h = and_intro (leb value 15) (leb maximum 15) (le-leb value 15 r.0) (le-leb maximum 15 r.1)
changed_in_range Up s r h =
    cond_cases SemaphoreInRange (ltb s.value 15)
    (λ e. and_intro (leb (s.value + 1) 15) (leb s.maximum 15) (le-leb (s.value + 1) 15 (omega (arith, ltb-true s.value 15 e)))
    (and_right (leb s.value 15) (leb s.maximum 15) h))
    (λ e. h)
changed_in_range Down s r h =
    cond_both SemaphoreInRange (ltb 0 s.value)
    (and_intro (leb (s.value - 1) 15) (leb s.maximum 15)
    (le-leb (s.value - 1) 15 (omega (arith, leb-true s.value 15 (and_left (leb s.value 15) (leb s.maximum 15) h))))
    (and_right (leb s.value 15) (leb s.maximum 15) h))
    h

change_long : (k : SemaphoreChange) (l : List Semaphore) (m : ℕ) → length (change_masked k l m) ≡ length l
unfolding change_masked
change_long k [] m = refl
change_long k (s ∷ l) m = ap suc (change_long k l (m / 2))

change_formed : (k : SemaphoreChange) (l : List Semaphore) (m : ℕ) → ChangeInRange k → semaphores_formed l ≡ true → semaphores_formed (change_masked k l m) ≡ true
unfolding change_masked semaphores_formed
change_formed k [] m r h = refl
change_formed k (s ∷ l) m r h =
    let a = leb s.value 15 && leb s.maximum 15 in
    let old = and_left a (semaphores_formed l) h in
    let here : SemaphoreInRange (masked_change k s m) = cond_both SemaphoreInRange (low_bit m) (changed_in_range k s r old) old in
    and_intro (leb (masked_change k s m).value 15 && leb (masked_change k s m).maximum 15) (semaphores_formed (change_masked k l (m / 2))) here
    (change_formed k l (m / 2) r (and_right a (semaphores_formed l) h))

change_facts : (c : Control) → ControlFacts c → (k : SemaphoreChange) (m : ℕ) → ChangeInRange k → ControlFacts (with_semaphores c (change_masked k c.semaphores m))
change_facts c f k m r =
    let s = f.semaphores in
    semaphores_facts c f (record { long = change_long k c.semaphores m ∙ s.long; range = change_formed k c.semaphores m r s.range })

-- ---- a lifted wait dropped
drop_facts : (c : Control) (t : ℕ) (w : Wait) → ControlFacts c → ControlFacts (drop_lifted c t w)
drop_facts c t Clear f = f
drop_facts c t (OnStall b k) f = cond_both ControlFacts (holds_now c (OnStall b k)) f (wait_facts c f t Clear refl)
drop_facts c t (OnSemaphore b m k) f = cond_both ControlFacts (holds_now c (OnSemaphore b m k)) f (wait_facts c f t Clear refl)

pub dropped_formed : (c : Control) (t : ℕ) (drops : Bool) → control_formed c ≡ true → control_formed (dropped_if c t drops) ≡ true
dropped_formed c t drops h =
    let f = control_facts c h in
    control_formed_lem _ (cond_both ControlFacts drops (wait_facts c f t Clear refl) f)

-- ---- the sync words
sync_facts : (c : Control) (t : ℕ) (s : SyncWord) → t < 3 → SyncInRange s → ControlFacts c → ControlFacts (sync_after c t s)
sync_facts c t (AtGetM m) h r f = mutexes_facts c f (set_numbers m (t + 1) (omega arith) f.mutexes)
sync_facts c t (AtRelM m) h r f =
    cond_both (λ (l : List ℕ). ControlFacts (with_mutexes c l)) (eqb (get_or c.mutexes m 0) (t + 1))
    (mutexes_facts c f (set_numbers m 0 (omega arith) f.mutexes)) (mutexes_facts c f f.mutexes)
sync_facts c t (StallWait b k) h r f =
    wait_facts c f t (OnStall b k)
    (and_intro (leb b block_most) (leb k conditions_most) (le-leb b block_most (omega arith)) (le-leb k conditions_most (omega arith)))
sync_facts c t (SemInit maximum value mask) h r f = change_facts c f (Init value maximum) mask (omega arith, omega arith)
sync_facts c t (SemPost mask) h r f = change_facts c f Up mask tt
sync_facts c t (SemGet mask) h r f = change_facts c f Down mask tt
sync_facts c t (SemWait b m k) h r f =
    wait_facts c f t (OnSemaphore b m k)
    (and_intro (leb b block_most) (leb m mask_most && leb k condition_most) (le-leb b block_most (omega arith))
    (and_intro (leb m mask_most) (leb k condition_most) (le-leb m mask_most (omega arith)) (le-leb k condition_most (omega arith))))

-- ---- the bank words
module _ (c : Control) (f : ControlFacts c) where
  to_matrix_facts : (file : ℕ) → ControlFacts (give_to_matrix c file)
  unfolding give_to_matrix
  to_matrix_facts file =
      banks_facts c f (set_numbers (owner_place file (unpack_bank c file)) 1 (omega arith) f.owners)
      (set_numbers (unpack_place file) (1 - unpack_bank c file) (omega arith) f.pointers)

  to_unpackers_facts : (file : ℕ) (keep : Bool) → ControlFacts (give_to_unpackers c file keep)
  unfolding give_to_unpackers
  to_unpackers_facts file keep =
      let o = set_numbers (owner_place file (matrix_bank c file)) 0 (omega arith) f.owners in
      cond_both (λ (l : List ℕ). ControlFacts (with_banks c (set c.owners (owner_place file (matrix_bank c file)) 0) l)) keep
      (banks_facts c f o f.pointers)
      (banks_facts c f o (set_numbers (matrix_place file) (1 - matrix_bank c file) (omega arith) f.pointers))

  reset_facts : ControlFacts (reset_banks c)
  reset_facts = banks_facts c f (zeros bank_count 1) (zeros pointer_count 1)

pub to_matrix_formed : (c : Control) (file : ℕ) → control_formed c ≡ true → control_formed (give_to_matrix c file) ≡ true
to_matrix_formed c file h = control_formed_lem _ (to_matrix_facts c (control_facts c h) file)

pub to_unpackers_formed : (c : Control) (file : ℕ) (keep : Bool) → control_formed c ≡ true → control_formed (give_to_unpackers c file keep) ≡ true
to_unpackers_formed c file keep h = control_formed_lem _ (to_unpackers_facts c (control_facts c h) file keep)

set_facts : (c : Control) (a b : Bool) → ControlFacts c → ControlFacts (set_d_valid_after c a b)
unfolding set_d_valid_after
set_facts c true true f = to_matrix_facts (give_to_matrix c 0) (to_matrix_facts c f 0) 1
set_facts c true false f = to_matrix_facts c f 0
set_facts c false true f = to_matrix_facts c f 1
set_facts c false false f = f

clear_facts : (c : Control) (a b keep reset : Bool) → ControlFacts c → ControlFacts (clear_d_valid_after c a b keep reset)
unfolding clear_d_valid_after
clear_facts c a b keep true f = reset_facts c f
clear_facts c true true keep false f = to_unpackers_facts (give_to_unpackers c 0 keep) (to_unpackers_facts c f 0 keep) 1 keep
clear_facts c true false keep false f = to_unpackers_facts c f 0 keep
clear_facts c false true keep false f = to_unpackers_facts c f 1 keep
clear_facts c false false keep false f = f

bank_facts : (c : Control) (x : BankWord) → ControlFacts c → ControlFacts (bank_after c x)
bank_facts c (ClearDValid a b keep reset) f = clear_facts c a b keep reset f
bank_facts c (SetDValid a b) f = set_facts c a b f

-- ---- any word
word_facts : (c : Control) (t : ℕ) (i : Instruction) → t < 3 → InRange i → ControlFacts c → ControlFacts (word_after c t i)
word_facts c t Nop h r f = f
word_facts c t (Cell x) h r f = f
word_facts c t (Bank x) h r f = bank_facts c x f
word_facts c t (Scalar x) h r f = f
word_facts c t (Sync x) h r f = sync_facts c t x h r f
word_facts c t (Config x) h r f = f

pub control_after_formed : (c : Control) (t : ℕ) (i : Instruction) → t < 3 → InRange i → control_formed c ≡ true → control_formed (control_after c t i) ≡ true
unfolding control_after
control_after_formed c t i h r e =
    control_formed_lem _ (word_facts (drop_lifted c t (wait_of c t)) t i h r (drop_facts c t (wait_of c t) (control_facts c e)))
