-- The sync words that change the semaphores of their mask, for the contract of the function that does all three.
use Rattle.std.specs.Prelude.{ℕ, ◌≡◌}
use Rattle.machine.specs.declared.control.Control.{Control}
use Rattle.word_rules.specs.declared.instruction.SyncWord.{SyncWord}
use Rattle.word_rules.specs.declared.semaphore_change.SemaphoreChange.{SemaphoreChange}
use Rattle.word_rules.specs.SyncWords.{change_semaphores, sync_after}
use Rattle.word_rules.specs.Waits.{Open, sync_gate}

-- a word that waits for nothing itself and changes the semaphores of this mask so
pub record Changes (k : SemaphoreChange) (mask : ℕ) (x : SyncWord) : Type 0 where
  pub waits : (c : Control) (t : ℕ) → sync_gate c t x ≡ Open
  pub after : (c : Control) (t : ℕ) → sync_after c t x ≡ change_semaphores c mask k
