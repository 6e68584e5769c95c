-- The machine after a word that passes: the control part, the thread settings and the stores. Every read is of the machine before the word.
-- What becomes of the control part and of the settings is given no store.
use Rattle.std.specs.Prelude.{ℕ, cond, List}
use Rattle.machine.specs.declared.control.Wait.{Wait}
use Rattle.machine.specs.declared.control.Wait.TheVariants.{Clear, OnStall, OnSemaphore}
use Rattle.machine.specs.declared.control.Control.{Control}
use Rattle.machine.specs.Control.{with_wait, wait_of}
use Rattle.machine.specs.Machine.{Stores}
use Rattle.word_rules.specs.declared.instruction.Instruction.{Instruction}
use Rattle.word_rules.specs.declared.instruction.Instruction.TheVariants.{Nop, Cell, Bank, Scalar, Sync, Config}
use Rattle.word_rules.specs.ScalarWords.{scalar_after}
use Rattle.word_rules.specs.ConfigWords.{bank_of, config_after, config_settings}
use Rattle.word_rules.specs.CellWords.{cell_after}
use Rattle.word_rules.specs.BankWords.{bank_after}
use Rattle.word_rules.specs.SyncWords.{sync_after}
use Rattle.word_rules.specs.Waits.{holds_now}

-- a passing word drops a lifted wait
abbrev pub drop_lifted : Control → ℕ → Wait → Control
drop_lifted c t Clear = c
drop_lifted c t (OnStall block conditions) = cond (holds_now c (OnStall block conditions)) c (with_wait c t Clear)
drop_lifted c t (OnSemaphore block mask condition) =
    cond (holds_now c (OnSemaphore block mask condition)) c (with_wait c t Clear)

-- the word's own work on the control part
abbrev pub word_after : Control → ℕ → Instruction → Control
word_after c t Nop = c
word_after c t (Cell x) = c
word_after c t (Bank x) = bank_after c x
word_after c t (Scalar x) = c
word_after c t (Sync x) = sync_after c t x
word_after c t (Config x) = c

-- first the lifted wait is dropped; STALLWAIT and SEMWAIT then set theirs
unfoldable pub control_after : Control → ℕ → Instruction → Control
control_after c t i = word_after (drop_lifted c t (wait_of c t)) t i

-- the settings after a word of thread t
abbrev pub settings_after : Instruction → ℕ → List ℕ → List ℕ
settings_after Nop t s = s
settings_after (Cell x) t s = s
settings_after (Bank x) t s = s
settings_after (Scalar x) t s = s
settings_after (Sync x) t s = s
settings_after (Config x) t s = config_settings x t s

-- the stores after a word of thread t, with the banks at the matrix pointers of SrcA and SrcB. No word writes a Dest cell
abbrev pub stores_after : Instruction → ℕ → ℕ → ℕ → List ℕ → Stores → Stores
stores_after Nop t bankA bankB s k = k
stores_after (Cell x) t bankA bankB s k = cell_after x (bank_of s t) bankA bankB k
stores_after (Bank x) t bankA bankB s k = k
stores_after (Scalar x) t bankA bankB s k = scalar_after x t k
stores_after (Sync x) t bankA bankB s k = k
stores_after (Config x) t bankA bankB s k = config_after x t (bank_of s t) k
