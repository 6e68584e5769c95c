-- When a word waits (document 01, "Waits"; within a word the wait, 101, then the mutex, 102, then SrcB's owner, 103), and what for
-- (document 02, K3). These definitions are given the control part, the thread and the instruction, and no store.
use Rattle.std.specs.Prelude.{ℕ, ◌+◌, ◌-◌, ◌/◌, Bool, true, false, cond, ◌&&◌, ◌||◌, not, List, [], ◌∷◌, eqb, get_or, Option, Some, None}
use Rattle.bits.specs.Field.{flag, low_bit}
use Rattle.machine.specs.declared.control.Wait.{Wait}
use Rattle.machine.specs.declared.control.Wait.TheVariants.{Clear, OnStall, OnSemaphore}
use Rattle.machine.specs.declared.control.Semaphore.{Semaphore}
use Rattle.machine.specs.declared.control.Control.{Control}
use Rattle.machine.specs.Control.{wait_of, matrix_bank, unpackers_own, matrix_owns}
use Rattle.word_rules.specs.declared.instruction.SyncWord.{SyncWord}
use Rattle.word_rules.specs.declared.instruction.SyncWord.TheVariants.{AtGetM, AtRelM, StallWait, SemInit, SemPost, SemGet, SemWait}
use Rattle.word_rules.specs.declared.instruction.CellWord.{CellWord}
use Rattle.word_rules.specs.declared.instruction.CellWord.TheVariants.{TrnspSrcB, MovB2A, ZeroAcc}
use Rattle.word_rules.specs.declared.instruction.Instruction.{Instruction}
use Rattle.word_rules.specs.declared.instruction.Instruction.TheVariants.{Nop, Cell, Bank, Scalar, Sync, Config}

-- ---- what a wait is held by

-- held by this where the test holds, else by what follows
abbrev pub held_if : Bool → ℕ → Option ℕ → Option ℕ
held_if test cause rest = cond test (Some cause) rest

-- C5: SrcA's unpack bank not owned by Unpackers; C6 the same for SrcB;
-- C7: SrcA's matrix bank not owned by Matrix; C8 the same for SrcB. Other bits never hold.
abbrev pub condition_holds : Control → ℕ → Bool
condition_holds c n =
    cond (eqb n 5) (not (unpackers_own c 0))
    (cond (eqb n 6) (not (unpackers_own c 1))
    (cond (eqb n 7) (not (matrix_owns c 0))
    (cond (eqb n 8) (not (matrix_owns c 1))
    false)))

-- condition n is named and holds
abbrev pub named_holds : Control → ℕ → ℕ → Bool
named_holds c k n = flag n k && condition_holds c n

-- the lowest stall condition that the wait names and that holds
unfoldable pub stall_held : Control → ℕ → Option ℕ
stall_held c k =
    held_if (named_holds c k 5) 5
    (held_if (named_holds c k 6) 6
    (held_if (named_holds c k 7) 7
    (held_if (named_holds c k 8) 8
    None)))

-- condition 1: the value is zero; 2: it equals its maximum; 3: either; 0: never
abbrev pub meets : ℕ → Semaphore → Bool
meets k s =
    cond (eqb k 1) (eqb s.value 0)
    (cond (eqb k 2) (eqb s.value s.maximum)
    (cond (eqb k 3) (eqb s.value 0 || eqb s.value s.maximum)
    false))

-- the same where the mask's lowest bit is the semaphore's
abbrev pub masked_meets : ℕ → Semaphore → ℕ → Bool
masked_meets k s m = low_bit m && meets k s

-- the cause of semaphore n: its number plus 16 if by condition 1 or 3 it holds as zero, else plus 24
abbrev pub semaphore_cause : ℕ → Semaphore → ℕ → ℕ
semaphore_cause k s n = cond ((eqb k 1 || eqb k 3) && eqb s.value 0) (n + 16) (n + 24)

-- the lowest semaphore of the mask that meets the condition; the first of these is semaphore n
unfoldable pub semaphore_held : ℕ → List Semaphore → ℕ → ℕ → Option ℕ
semaphore_held k [] m n = None
semaphore_held k (s ∷ l) m n = held_if (masked_meets k s m) (semaphore_cause k s n) (semaphore_held k l (m / 2) (n + 1))

abbrev pub held_by : Control → Wait → Option ℕ
held_by c Clear = None
held_by c (OnStall block conditions) = stall_held c conditions
held_by c (OnSemaphore block mask condition) = semaphore_held condition c.semaphores mask 0

abbrev pub is_held : Option ℕ → Bool
is_held None = false
is_held (Some cause) = true

-- something in the wait holds now; where nothing does, the wait is lifted
abbrev pub holds_now : Control → Wait → Bool
holds_now c w = is_held (held_by c w)

-- ---- which words it stalls

abbrev pub wait_block : Wait → ℕ
wait_block Clear = 0
wait_block (OnStall block conditions) = block
wait_block (OnSemaphore block mask condition) = block

-- the block bits name the word: the last column of the table
abbrev pub named_by : ℕ → Instruction → Bool
named_by block Nop = false
named_by block (Cell x) = flag 6 block
named_by block (Bank x) = flag 6 block
named_by block (Scalar x) = flag 5 block
named_by block (Sync x) = flag 1 block
named_by block (Config x) = flag 7 block

-- ---- whether a word passes now

-- or by which number it is stalled, and the cause told with it
pub data Gate : Type 0 where
  Open : Gate
  Closed : ℕ → ℕ → Gate

-- ATGETM takes a free one, passes if already its own, else waits
abbrev pub mutex_open : ℕ → ℕ → Bool
mutex_open holder t = eqb holder 0 || eqb holder (t + 1)

-- for the thread that holds it
abbrev pub mutex_gate : ℕ → ℕ → Gate
mutex_gate holder t = cond (mutex_open holder t) Open (Closed 102 (holder - 1))

abbrev pub sync_gate : Control → ℕ → SyncWord → Gate
sync_gate c t (AtGetM m) = mutex_gate (get_or c.mutexes m 0) t
sync_gate c t (AtRelM m) = Open
sync_gate c t (StallWait block conditions) = Open
sync_gate c t (SemInit maximum value mask) = Open
sync_gate c t (SemPost mask) = Open
sync_gate c t (SemGet mask) = Open
sync_gate c t (SemWait block mask condition) = Open

-- TRNSPSRCB and MOVB2A wait for SrcB's owner Matrix, not for SrcA; told is SrcB's bank at the matrix pointer
abbrev pub cell_gate : Bool → ℕ → CellWord → Gate
cell_gate owned bank TrnspSrcB = cond owned Open (Closed 103 bank)
cell_gate owned bank (MovB2A rowA four rowB) = cond owned Open (Closed 103 bank)
cell_gate owned bank (ZeroAcc mode wide place) = Open

-- what the word itself waits for
abbrev pub own_gate : Control → ℕ → Instruction → Gate
own_gate c t Nop = Open
own_gate c t (Cell x) = cell_gate (matrix_owns c 1) (matrix_bank c 1) x
own_gate c t (Bank x) = Open
own_gate c t (Scalar x) = Open
own_gate c t (Sync x) = sync_gate c t x
own_gate c t (Config x) = Open

-- a wait that isn't lifted stalls the words that it names
abbrev pub wait_gate : Option ℕ → Bool → Gate → Gate
wait_gate None named gate = gate
wait_gate (Some cause) named gate = cond named (Closed 101 cause) gate

-- the wait (101), then the mutex (102), then SrcB's owner (103)
unfoldable pub gate_of : Control → ℕ → Instruction → Gate
gate_of c t i = wait_gate (held_by c (wait_of c t)) (named_by (wait_block (wait_of c t)) i) (own_gate c t i)
