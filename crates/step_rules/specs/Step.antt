-- One word on the whole machine: what comes of it in document 01's numbers, and the machine that it leaves.
use Rattle.std.specs.Prelude.{ℕ, leb}
use Rattle.machine.specs.Machine.{Machine, machine_with}
use Rattle.machine.specs.Formed.{sized, formed}
use Rattle.machine.specs.Answers.{Told, accepted, refused, provided}
use Rattle.machine.specs.Outcomes.{Progress, passed, stalled}
use Rattle.word_rules.specs.declared.instruction.Instruction.{Instruction}
use Rattle.word_rules.specs.Table.{decode_of}
use Rattle.word_rules.specs.Waits.{Gate, Open, Closed, gate_of}
use Rattle.machine.specs.Control.{matrix_bank}
use Rattle.word_rules.specs.After.{control_after, settings_after, stores_after}

-- an outcome, with the machine after it
pub record Step : Type 0 where
  pub outcome : Told Progress
  pub after : Machine

abbrev pub stepped : Told Progress → Machine → Step
stepped o m = record { outcome = o; after = m }

-- the machine after a word that passes; the banks are those at the matrix pointers as the word finds them
unfoldable pub machine_after : Machine → ℕ → Instruction → Machine
machine_after m t i =
    machine_with (control_after m.control t i) (settings_after i t m.settings) (stores_after i t (matrix_bank m.control 0) (matrix_bank m.control 1) m.settings m.kept)

abbrev pub pass_of : Machine → ℕ → Instruction → Step
pass_of m t i = stepped (accepted passed) (machine_after m t i)

-- a stall changes nothing
abbrev pub by_gate : Machine → ℕ → Instruction → Gate → Step
by_gate m t i Open = pass_of m t i
by_gate m t i (Closed n cause) = stepped (accepted (stalled n cause)) m

unfoldable pub gated_of : Machine → ℕ → Instruction → Step
gated_of m t i = by_gate m t i (gate_of m.control t i)

-- a refused word changes nothing
abbrev pub by_decoded : Machine → ℕ → Told Instruction → Step
by_decoded m t (accepted i) = gated_of m t i
by_decoded m t (refused n vs) = stepped (refused n vs) m

-- a word offered by a thread: 2, 3, then the stalls, else passed
unfoldable pub offer_of : Machine → ℕ → ℕ → Step
offer_of m t w = by_decoded m t (decode_of w)

-- the checks of a call: 4, 10, 1
unfoldable pub check_of : Machine → ℕ → Told (Unit {0})
check_of m t =
    provided (sized m) 4
    (provided (formed m) 10
    (provided (leb t 2) 1
    (accepted tt)))

-- a refused call changes nothing
abbrev pub by_check : Machine → ℕ → ℕ → Told (Unit {0}) → Step
by_check m t w (accepted x) = offer_of m t w
by_check m t w (refused n vs) = stepped (refused n vs) m

-- one word: 4, 10, 1, then what the offer answers
unfoldable pub step_of : Machine → ℕ → ℕ → Step
step_of m t w = by_check m t w (check_of m t)
