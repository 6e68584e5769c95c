-- The words of the sync unit, block bit B1: what each says, and what it does to the control part. Bits not named are ignored.
use Rattle.std.specs.Prelude.{ℕ, ◌+◌, ◌-◌, ◌/◌, cond, List, [], ◌∷◌, ltb, eqb, set, get_or}
use Rattle.bits.specs.Field.{field, low_bit}
use Rattle.machine.specs.declared.control.Wait.TheVariants.{OnStall, OnSemaphore}
use Rattle.machine.specs.declared.control.Semaphore.{Semaphore}
use Rattle.machine.specs.declared.control.Control.{Control}
use Rattle.machine.specs.Sizes.{mutex_count, semaphore_most}
use Rattle.machine.specs.Control.{with_mutexes, with_semaphores, with_wait}
use Rattle.machine.specs.Answers.{Told, accepted, provided}
use Rattle.word_rules.specs.declared.semaphore_change.SemaphoreChange.{SemaphoreChange}
use Rattle.word_rules.specs.declared.semaphore_change.SemaphoreChange.TheVariants.{Init, Up, Down}
use Rattle.word_rules.specs.declared.instruction.SyncWord.{SyncWord}
use Rattle.word_rules.specs.declared.instruction.SyncWord.TheVariants.{AtGetM, AtRelM, StallWait, SemInit, SemPost, SemGet, SemWait}
use Rattle.word_rules.specs.declared.instruction.Instruction.{Instruction}
use Rattle.word_rules.specs.declared.instruction.Instruction.TheVariants.{Sync}

-- ---- what a word says

-- mutex 0–15; over 7 is 3
abbrev pub mutex_word_of : (ℕ → SyncWord) → ℕ → Told Instruction
mutex_word_of act w = provided (ltb (field 0 16 w) mutex_count) 3 (accepted (Sync (act (field 0 16 w))))

-- ATGETM: mutex 0–15
abbrev pub at_get_m_of : ℕ → Told Instruction
at_get_m_of w = mutex_word_of AtGetM w

-- ATRELM: mutex 0–15
abbrev pub at_rel_m_of : ℕ → Told Instruction
at_rel_m_of w = mutex_word_of AtRelM w

-- block 15–23
abbrev pub block_of : ℕ → ℕ
block_of w = field 15 9 w

-- mask 2–9
abbrev pub mask_of : ℕ → ℕ
mask_of w = field 2 8 w

-- STALLWAIT: block 15–23, conditions 0–14
abbrev pub stall_wait_of : ℕ → Told Instruction
stall_wait_of w = accepted (Sync (StallWait (block_of w) (field 0 15 w)))

-- SEMINIT: maximum 20–23, value 16–19, mask 2–9
abbrev pub sem_init_of : ℕ → Told Instruction
sem_init_of w = accepted (Sync (SemInit (field 20 4 w) (field 16 4 w) (mask_of w)))

-- SEMPOST: mask 2–9
abbrev pub sem_post_of : ℕ → Told Instruction
sem_post_of w = accepted (Sync (SemPost (mask_of w)))

-- SEMGET: mask 2–9
abbrev pub sem_get_of : ℕ → Told Instruction
sem_get_of w = accepted (Sync (SemGet (mask_of w)))

-- SEMWAIT: block 15–23, mask 2–9, condition 0–1
abbrev pub sem_wait_of : ℕ → Told Instruction
sem_wait_of w = accepted (Sync (SemWait (block_of w) (mask_of w) (field 0 2 w)))

-- ---- what it does

-- ATRELM: frees its own, else no effect
abbrev pub released : List ℕ → ℕ → ℕ → List ℕ
released mutexes m t = cond (eqb (get_or mutexes m 0) (t + 1)) (set mutexes m 0) mutexes

abbrev pub semaphore : ℕ → ℕ → Semaphore
semaphore value maximum = record { value = value; maximum = maximum }

abbrev pub changed_by : SemaphoreChange → Semaphore → Semaphore
-- SEMINIT: both numbers
changed_by (Init value maximum) s = semaphore value maximum
-- SEMPOST: up by 1 unless 15
changed_by Up s = cond (ltb s.value semaphore_most) (semaphore (s.value + 1) s.maximum) s
-- SEMGET: down by 1 unless 0
changed_by Down s = cond (ltb 0 s.value) (semaphore (s.value - 1) s.maximum) s

-- where the mask's lowest bit is the semaphore's
abbrev pub masked_change : SemaphoreChange → Semaphore → ℕ → Semaphore
masked_change k s m = cond (low_bit m) (changed_by k s) s

-- each semaphore of the mask changed: bit k of a mask is semaphore k
unfoldable pub change_masked : SemaphoreChange → List Semaphore → ℕ → List Semaphore
change_masked k [] m = []
change_masked k (s ∷ l) m = masked_change k s m ∷ change_masked k l (m / 2)

abbrev pub change_semaphores : Control → ℕ → SemaphoreChange → Control
change_semaphores c mask k = with_semaphores c (change_masked k c.semaphores mask)

-- the control part after a word of thread t
abbrev pub sync_after : Control → ℕ → SyncWord → Control
-- takes a free one, or keeps its own
sync_after c t (AtGetM m) = with_mutexes c (set c.mutexes m (t + 1))
sync_after c t (AtRelM m) = with_mutexes c (released c.mutexes m t)
-- becomes the thread's wait
sync_after c t (StallWait block conditions) = with_wait c t (OnStall block conditions)
sync_after c t (SemInit maximum value mask) = change_semaphores c mask (Init value maximum)
sync_after c t (SemPost mask) = change_semaphores c mask Up
sync_after c t (SemGet mask) = change_semaphores c mask Down
-- becomes the thread's wait
sync_after c t (SemWait block mask condition) = with_wait c t (OnSemaphore block mask condition)
