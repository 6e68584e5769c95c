-- The cause that a stalled word is told for is so on the machine that stalls it.
use Rattle.std.specs.Prelude.{ℕ, ◌≡◌}
use Rattle.machine.specs.Machine.{Machine}
use Rattle.machine.specs.Answers.{accepted}
use Rattle.machine.specs.Outcomes.{stalled}
use Rattle.word_rules.specs.Causes.{StalledFor}
use Rattle.step_rules.specs.Step.{offer_of}

-- "A stall answer shall name its cause" (document 02, K3)
abbrev pub CausesHold : Type 0
CausesHold = (m : Machine) (t w n cause : ℕ) → (offer_of m t w).outcome ≡ accepted (stalled n cause) → StalledFor m.control t w n cause
