-- SEMINIT, SEMPOST and SEMGET, offered by what they do to the semaphores of their mask.
use Prim.Native.Nat.{ℕ}
use mathlib.Core.Path.{◌≡◌, refl, sym}
use mathlib.Core.Bool.{Bool, true, false, cond, ◌||◌}
use mathlib.Core.List.{[]}
use lib.Dec.{eqb}
use Rattle.bits.specs.Field.{field}
use Rattle.bits.proofs.Choices.{never}
use Rattle.machine.specs.Answers.{Told, accepted, refused}
use Rattle.word_rules.specs.declared.semaphore_change.SemaphoreChange.{SemaphoreChange}
use Rattle.word_rules.specs.declared.semaphore_change.SemaphoreChange.TheVariants.{Init, Up, Down}
use Rattle.word_rules.specs.declared.instruction.SyncWord.{SyncWord}
use Rattle.word_rules.specs.declared.instruction.SyncWord.TheVariants.{SemInit, SemPost, SemGet}
use Rattle.word_rules.specs.declared.instruction.Instruction.{Instruction}
use Rattle.word_rules.specs.declared.instruction.Instruction.TheVariants.{Sync}
use Rattle.word_rules.specs.SyncWords.{mask_of, sem_init_of, sem_post_of, sem_get_of}
use Rattle.word_rules.specs.Table.{control_rows, has, said}
use Rattle.word_rules.specs.Offered.{ControlStep}
use Rattle.word_control.specs.Changes.{Changes}

-- a step that is what each word with the change comes to
abbrev Comes : (Told Instruction → ControlStep) → ControlStep → SemaphoreChange → ℕ → Type 0
Comes offer r k mask = (x : SyncWord) → Changes k mask x → r ≡ offer (accepted (Sync x))

one_of_three : (w : ℕ) (offer : Told Instruction → ControlStep) (r : ControlStep) (init post get : Bool) → (init || (post || (get || false))) ≡ true →
    Comes offer r (cond init (Init (field 16 4 w) (field 20 4 w)) (cond post Up Down)) (mask_of w) →
    r ≡ offer (cond init (sem_init_of w) (cond post (sem_post_of w) (cond get (sem_get_of w) (refused 2 []))))
one_of_three w offer r true post get h comes = comes (SemInit (field 20 4 w) (field 16 4 w) (mask_of w)) (record { waits = λ c t. refl; after = λ c t. refl })
one_of_three w offer r false true get h comes = comes (SemPost (mask_of w)) (record { waits = λ c t. refl; after = λ c t. refl })
one_of_three w offer r false false true h comes = comes (SemGet (mask_of w)) (record { waits = λ c t. refl; after = λ c t. refl })
one_of_three w offer r false false false h comes = never (sym h)

-- a word of the control part that is none of the other six
pub changing_offered : (op w : ℕ) (offer : Told Instruction → ControlStep) (r : ControlStep) → (eqb op 0x36 ≡ false) × (eqb op 0x57 ≡ false) →
    (eqb op 0xA0 ≡ false) × (eqb op 0xA1 ≡ false) → (eqb op 0xA2 ≡ false) × (eqb op 0xA6 ≡ false) → has control_rows op ≡ true →
    Comes offer r (cond (eqb op 0xA3) (Init (field 16 4 w) (field 20 4 w)) (cond (eqb op 0xA4) Up Down)) (mask_of w) →
    r ≡ offer (said control_rows op w)
unfolding has said
changing_offered op w offer r banks mutexes waits h comes =
    rw (banks.0, banks.1, mutexes.0, mutexes.1, waits.0, waits.1)
    (one_of_three w offer r (eqb op 0xA3) (eqb op 0xA4) (eqb op 0xA5) (rw (banks.0, banks.1, mutexes.0, mutexes.1, waits.0, waits.1) at h) comes)
