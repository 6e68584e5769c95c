-- The image's first body: ThreadConfig and the control part.
use Rattle.std.specs.Prelude.{ℕ, ◌+◌, ◌*◌, ◌≤◌, cond, List, eqb}
use Rattle.bits.specs.Field.{field}
use Rattle.machine.specs.declared.control.Wait.{Wait}
use Rattle.machine.specs.declared.control.Wait.TheVariants.{Clear, OnStall, OnSemaphore}
use Rattle.machine.specs.declared.control.Thread.{Thread}
use Rattle.machine.specs.declared.control.Semaphore.{Semaphore}
use Rattle.machine.specs.declared.control.Control.{Control}
use Rattle.machine.specs.Control.{control}
use Rattle.machine.specs.Sizes.{setting_count, mutex_count, semaphore_count, bank_count, pointer_count, half_most, holder_most, semaphore_most, block_most, conditions_most, mask_most, condition_most}
use Rattle.format.specs.Format.{Format, num, dep, both, many, numbers, via_on, via, most_after}

-- value and maximum, a byte each
abbrev pub semaphore_format : Format Semaphore
semaphore_format =
    via (λ t. record { value = t.0; maximum = t.1 }) (λ s. (s.value, s.maximum)) (both (num 1 0 semaphore_most) (num 1 0 semaphore_most))

-- a wait's kind: 0 none, 1 stall, 2 semaphore
abbrev pub wait_kind_most : ℕ
wait_kind_most = 2

-- the largest low field: bits 0–14 of STALLWAIT, or 0–9 of SEMWAIT, which are mask 2–9 and condition 0–1
unfoldable pub low_most : ℕ → ℕ
low_most k = cond (eqb k 1) conditions_most (mask_most * 4 + condition_most)

-- kind byte, block (2) and low field (2); with kind 0 the rest is zero
abbrev pub wait_triple : Format (ℕ × (ℕ × ℕ))
wait_triple = dep (num 1 0 wait_kind_most) (λ k. both (num 2 0 (most_after k block_most)) (num 2 0 (most_after k (low_most k)))) 4

unfoldable pub wait_of_triple : ℕ × (ℕ × ℕ) → Wait
wait_of_triple t =
    cond (eqb t.0 0) Clear
    (cond (eqb t.0 1) (OnStall t.1.0 t.1.1)
    (OnSemaphore t.1.0 (field 2 8 t.1.1) (field 0 2 t.1.1)))

abbrev pub triple_of_wait : Wait → ℕ × (ℕ × ℕ)
triple_of_wait Clear = (0, (0, 0))
triple_of_wait (OnStall block conditions) = (1, (block, conditions))
triple_of_wait (OnSemaphore block mask condition) = (2, (block, mask * 4 + condition))

-- a semaphore wait's condition has 2 bits, so that it does not run into the mask
abbrev pub TwoBits : Wait → Type 0
TwoBits Clear = Unit
TwoBits (OnStall block conditions) = Unit
TwoBits (OnSemaphore block mask condition) = condition ≤ condition_most

abbrev pub wait_format : Format Wait
wait_format = via_on TwoBits wait_of_triple triple_of_wait wait_triple

abbrev pub thread_format : Format Thread
thread_format = via (λ w. record { wait = w }) (λ t. t.wait) wait_format

-- ThreadConfig; mutexes a byte each (0 free, thread + 1); semaphores value, maximum
abbrev pub locks_format : Format ((List ℕ × List ℕ) × List Semaphore)
locks_format = both (both (numbers setting_count 2 half_most) (numbers mutex_count 1 holder_most)) (many semaphore_count semaphore_format)

-- three waits
abbrev pub waits_format : Format ((Thread × Thread) × Thread)
waits_format = both (both thread_format thread_format) thread_format

-- owners A0 A1 B0 B1 (1 Matrix); pointers matrix A, matrix B, unpack A, unpack B
abbrev pub banks_format : Format (List ℕ × List ℕ)
banks_format = both (numbers bank_count 1 1) (numbers pointer_count 1 1)

-- all that must agree in two runs for them to go the same way
pub record Decided : Type 0 where
  pub settings : List ℕ
  pub control : Control

abbrev pub decided : List ℕ → Control → Decided
decided s c = record { settings = s; control = c }

-- the body's parts, as they stand
abbrev pub ControlParts : Type 0
ControlParts = (((List ℕ × List ℕ) × List Semaphore) × ((Thread × Thread) × Thread)) × (List ℕ × List ℕ)

abbrev pub decided_of_parts : ControlParts → Decided
decided_of_parts t =
    decided t.0.0.0.0 (control t.0.1.0.0 t.0.1.0.1 t.0.1.1 t.0.0.0.1 t.0.0.1 t.1.0 t.1.1)

abbrev pub parts_of_decided : Decided → ControlParts
parts_of_decided d =
    let c = d.control in
    ((((d.settings, c.mutexes), c.semaphores), ((c.t0, c.t1), c.t2)), (c.owners, c.pointers))

abbrev pub control_format : Format Decided
control_format = via decided_of_parts parts_of_decided (both (both locks_format waits_format) banks_format)
