-- What the cause of a stall says (document 02, K3): of a wait the lowest thing that it names and that holds, of a mutex the thread that holds
-- it, of a bank its number. No definition cites these: a closed gate has them.
use Rattle.std.specs.Prelude.{ℕ, ◌+◌, ◌<◌, ◌≤◌, ◌≡◌, true, false, ◌&&◌, List, ◌⊎◌, length, get_or}
use Rattle.bits.specs.Field.{flag}
use Rattle.machine.specs.declared.control.Wait.{Wait}
use Rattle.machine.specs.declared.control.Wait.TheVariants.{Clear, OnStall, OnSemaphore}
use Rattle.machine.specs.declared.control.Semaphore.{Semaphore}
use Rattle.machine.specs.declared.control.Control.{Control}
use Rattle.machine.specs.Control.{wait_of, matrix_bank, owner_of}
use Rattle.machine.specs.Answers.{accepted}
use Rattle.word_rules.specs.declared.instruction.SyncWord.TheVariants.{AtGetM}
use Rattle.word_rules.specs.declared.instruction.Instruction.TheVariants.{Sync}
use Rattle.word_rules.specs.Table.{decode_of}
use Rattle.word_rules.specs.Waits.{condition_holds, meets}

-- "the lowest stall condition that holds (5 to 8)", of those that the wait names
pub record LowestCondition (c : Control) (conditions cause : ℕ) : Type 0 where
  pub from5 : 5 ≤ cause
  pub to8 : cause ≤ 8
  pub named : flag cause conditions ≡ true
  pub holds : condition_holds c cause ≡ true
  pub lowest : (j : ℕ) → j < cause → (flag j conditions && condition_holds c j) ≡ false

abbrev pub semaphore_at : List Semaphore → ℕ → Semaphore
semaphore_at l n = get_or l n (record { value = 0; maximum = 0 })

-- "for the lowest semaphore that holds, its number plus 16 if by condition 1 or 3 it holds as zero, else plus 24", of those in the mask
pub record LowestSemaphore (l : List Semaphore) (mask condition cause : ℕ) : Type 0 where
  pub number : ℕ
  pub there : number < length l
  pub named : flag number mask ≡ true
  pub holds : meets condition (semaphore_at l number) ≡ true
  pub lowest : (j : ℕ) → j < number → (flag j mask && meets condition (semaphore_at l j)) ≡ false
  pub as_zero : (condition ≡ 1) ⊎ (condition ≡ 3) → (semaphore_at l number).value ≡ 0 → cause ≡ number + 16
  pub as_full : (condition ≡ 2) ⊎ ((semaphore_at l number).value ≡ 0 → ⊥) → cause ≡ number + 24

-- what a wait is held by
abbrev pub HeldFor : Control → Wait → ℕ → Type 0
HeldFor c Clear cause = ⊥
HeldFor c (OnStall block conditions) cause = LowestCondition c conditions cause
HeldFor c (OnSemaphore block mask condition) cause = LowestSemaphore c.semaphores mask condition cause

-- "for 102 the holding thread", which is another one
pub record HeldMutex (c : Control) (t w cause : ℕ) : Type 0 where
  pub mutex : ℕ
  pub word : decode_of w ≡ accepted (Sync (AtGetM mutex))
  pub holder : get_or c.mutexes mutex 0 ≡ cause + 1
  pub another : cause ≡ t → ⊥

-- "for 103 the bank number": SrcB's at the matrix pointer, which Matrix does not own
pub record UnownedBank (c : Control) (cause : ℕ) : Type 0 where
  pub bank : cause ≡ matrix_bank c 1
  pub owner : owner_of c 1 cause ≡ 1 → ⊥

-- why thread t's word w is stalled by number n
abbrev pub StalledFor : Control → ℕ → ℕ → ℕ → ℕ → Type 0
StalledFor c t w n cause =
    ((n ≡ 101) × HeldFor c (wait_of c t) cause) ⊎ (((n ≡ 102) × HeldMutex c t w cause) ⊎ ((n ≡ 103) × UnownedBank c cause))
