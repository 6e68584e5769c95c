-- What an offered word comes to and what it leaves, in the pieces that the functions of the code are lent. It serves their contracts alone:
-- the rules are `decode_of`, `gate_of`, `control_after`, `settings_after` and `stores_after`, which `offer_of` of step_rules puts together.
use Rattle.std.specs.Prelude.{ℕ, ◌≡◌, Bool, true, false, cond, ◌&&◌, ◌||◌, not, List, eqb, Option, Some, None}
use Rattle.machine.specs.declared.control.Wait.{Wait}
use Rattle.machine.specs.declared.control.Wait.TheVariants.{Clear, OnStall, OnSemaphore}
use Rattle.machine.specs.declared.control.Semaphore.{Semaphore}
use Rattle.machine.specs.declared.control.Control.{Control}
use Rattle.machine.specs.Control.{with_wait}
use Rattle.machine.specs.Machine.{Stores, with_gprs, with_config}
use Rattle.machine.specs.declared.refusal.Outcome.{Outcome}
use Rattle.machine.specs.Answers.{Told, accepted, refused, provided}
use Rattle.machine.specs.Outcomes.{Progress, idle, passed, stalled, has_passed, told_outcome}
use Rattle.word_rules.specs.declared.instruction.Instruction.{Instruction}
use Rattle.word_rules.specs.declared.instruction.Instruction.TheVariants.{Nop, Cell, Bank, Scalar, Sync, Config}
use Rattle.word_rules.specs.declared.stepped.Stepped.{Stepped}
use Rattle.word_rules.specs.Waits.{meets, semaphore_cause, holds_now, wait_block, named_by, Gate, Open, Closed, cell_gate, own_gate}
use Rattle.word_rules.specs.After.{word_after, settings_after, stores_after}

-- ---- by a gate

abbrev pub gate_outcome : Gate → Told Progress
gate_outcome Open = accepted passed
gate_outcome (Closed n cause) = accepted (stalled n cause)

-- a stall changes nothing
abbrev pub if_open : {A : Type 0} → Gate → A → A → A
if_open Open new old = new
if_open (Closed n cause) new old = old

-- what comes of a word: 2, 3, then what its gate says
abbrev pub outcome_of : (Instruction → Gate) → Told Instruction → Told Progress
outcome_of gate (accepted i) = gate_outcome (gate i)
outcome_of gate (refused n vs) = refused n vs

-- a part of the machine after a word: changed where the word passes, else as it was
abbrev pub part_of : {A : Type 0} → (Instruction → Gate) → Told Instruction → (Instruction → A) → A → A
part_of gate (accepted i) effect old = if_open (gate i) (effect i) old
part_of gate (refused n vs) effect old = old

-- a gate at which the thread's wait is asked first, by whether it stalls the word; the wait's cause is not told yet
abbrev pub wait_first : Bool → Gate → Gate
wait_first stalls gate = cond stalls (Closed 101 0) gate

-- what comes of a word that nothing but its thread's wait can stall
abbrev pub wait_outcome : Bool → Told Instruction → Told Progress
wait_outcome stalls d = outcome_of (λ i. wait_first stalls Open) d

-- what the code answers of a word that is held up, where it or a field of it is not fine or its wait stalls it; none where it goes on
abbrev pub HeldUp : Bool → Bool → Bool → Option Outcome → Type 0
HeldUp fine-word fine-field stalls None = (fine-word ≡ true) × (fine-field ≡ true) × (stalls ≡ false)
HeldUp fine-word fine-field stalls (Some o) =
    ((not fine-word || (not fine-field || stalls)) ≡ true)
    × ((i : Instruction) → told_outcome o ≡ wait_outcome stalls (provided fine-word 2 (provided fine-field 3 (accepted i))))

-- the cause of 101 put in
abbrev pub with_cause : ℕ → Told Progress → Told Progress
with_cause cause (accepted idle) = accepted idle
with_cause cause (accepted passed) = accepted passed
with_cause cause (accepted (stalled n k)) = accepted (stalled n (cond (eqb n 101) cause k))
with_cause cause (refused n vs) = refused n vs

-- ---- what a thread's wait makes of its words

-- as what a semaphore meets the condition: its number plus this is the cause; 0 where it does not
abbrev pub meets_as : ℕ → Semaphore → ℕ
meets_as k s = cond (meets k s) (semaphore_cause k s 0) 0

abbrev pub is_wait : Wait → Bool
is_wait Clear = false
is_wait (OnStall block conditions) = true
is_wait (OnSemaphore block mask condition) = true

-- there is a wait, and it is lifted: a passing word drops it
abbrev pub lifted_now : Control → Wait → Bool
lifted_now c w = is_wait w && not (holds_now c w)

-- the block bits that the wait stalls now: none where it is lifted
abbrev pub blocks_now : Control → Wait → ℕ
blocks_now c w = cond (holds_now c w) (wait_block w) 0

-- what it is held by, 0 where it is lifted
abbrev pub cause_in : Option ℕ → ℕ
cause_in None = 0
cause_in (Some cause) = cause

-- ---- on the control part

-- what came of a word, and the control part after it
pub record ControlStep : Type 0 where
  pub outcome : Told Progress
  pub control : Control

abbrev pub came : Told Progress → Control → ControlStep
came o c = record { outcome = o; control = c }

-- the same as the code answers it
abbrev pub told_stepped : Stepped → ControlStep
told_stepped r = came (told_outcome r.outcome) r.control

-- the thread's wait dropped, where the test says so
abbrev pub dropped_if : Control → ℕ → Bool → Control
dropped_if c t drops = cond drops (with_wait c t Clear) c

-- a word that leaves the control part alone drops a lifted wait where it passes
abbrev pub dropped_on : Told Progress → Control → ℕ → Bool → Control
dropped_on o c t drops = dropped_if c t (has_passed o && drops)

-- the gate of a word, by the block bits that its thread's wait stalls now
abbrev pub control_gate : ℕ → Control → ℕ → Instruction → Gate
control_gate blocks c t i = wait_first (named_by blocks i) (own_gate c t i)

-- a word offered by thread t, by the block bits that its wait stalls now, and whether it is lifted
unfoldable pub control_offer : ℕ → Bool → Control → ℕ → Told Instruction → ControlStep
control_offer blocks drops c t d =
    came (outcome_of (control_gate blocks c t) d)
    (part_of (control_gate blocks c t) d (λ i. word_after (dropped_if c t drops) t i) c)

-- ---- on the stores

-- what a word that leaves the control part alone waits for, by SrcB's bank at the matrix pointer, and whether Matrix owns it
abbrev pub owner_gate : Bool → ℕ → Instruction → Gate
owner_gate owned bank Nop = Open
owner_gate owned bank (Cell x) = cell_gate owned bank x
owner_gate owned bank (Bank x) = Open
owner_gate owned bank (Scalar x) = Open
owner_gate owned bank (Sync x) = Open
owner_gate owned bank (Config x) = Open

-- its gate, by the block bits that its thread's wait stalls now
abbrev pub store_gate : ℕ → Bool → ℕ → Instruction → Gate
store_gate blocks owned bank i = wait_first (named_by blocks i) (owner_gate owned bank i)

-- what came of a word, and the settings and stores after it
pub record StoreStep : Type 0 where
  pub outcome : Told Progress
  pub settings : List ℕ
  pub kept : Stores

abbrev pub left : Told Progress → List ℕ → Stores → StoreStep
left o s k = record { outcome = o; settings = s; kept = k }

-- a word offered by thread t, with the banks at the matrix pointers of SrcA and SrcB
unfoldable pub store_offer : ℕ → Bool → ℕ → ℕ → ℕ → Told Instruction → List ℕ → Stores → StoreStep
store_offer blocks owned t bankA bankB d s k =
    left (outcome_of (store_gate blocks owned bankB) d)
    (part_of (store_gate blocks owned bankB) d (λ i. settings_after i t s) s)
    (part_of (store_gate blocks owned bankB) d (λ i. stores_after i t bankA bankB s k) k)

-- a word that leaves g' of the GPRs g, whatever else there is
abbrev pub GprsOffered : ℕ → ℕ → Told Instruction → List ℕ → Told Progress → List ℕ → Type 0
GprsOffered blocks t d g o g' =
    (owned : Bool) (bankA bankB : ℕ) (s : List ℕ) (k : Stores) →
    left o s (with_gprs k g') ≡ store_offer blocks owned t bankA bankB d s (with_gprs k g)

-- a word that leaves s', g' and c' of the settings s, the GPRs g and the Config words c, whatever else there is
abbrev pub ConfigOffered : ℕ → ℕ → Told Instruction → List ℕ → List ℕ → List ℕ → Told Progress → List ℕ → List ℕ → List ℕ → Type 0
ConfigOffered blocks t d s g c o s' g' c' =
    (owned : Bool) (bankA bankB : ℕ) (k : Stores) →
    left o s' (with_config (with_gprs k g') c') ≡ store_offer blocks owned t bankA bankB d s (with_config (with_gprs k g) c)
