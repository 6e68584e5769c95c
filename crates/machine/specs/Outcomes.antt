-- What came of an offered word or of a turn, in document 01's numbers: "A turn's outcome is idle (its thread's stream is used up), passed,
-- stalled or refused, the last two with their numbers." A stall's number comes with its cause (document 02, K3).
use Rattle.std.specs.Prelude.{ℕ, Bool, true, false}
use Rattle.machine.specs.declared.refusal.Outcome.{Outcome}
use Rattle.machine.specs.declared.refusal.Outcome.TheVariants.{Idle, Passed, Stalled, Refused}
use Rattle.machine.specs.Numbers.{stall_number_of, stall_cause_of}
use Rattle.machine.specs.Answers.{Told, accepted, refused, refusal}

-- what comes of one that is not refused
pub data Progress : Type 0 where
  idle : Progress
  passed : Progress
  stalled : ℕ → ℕ → Progress

abbrev pub told_outcome : Outcome → Told Progress
told_outcome Idle = accepted idle
told_outcome Passed = accepted passed
told_outcome (Stalled cause) = accepted (stalled (stall_number_of cause) (stall_cause_of cause))
told_outcome (Refused r) = refusal r

abbrev pub has_passed : Told Progress → Bool
has_passed (accepted idle) = false
has_passed (accepted passed) = true
has_passed (accepted (stalled n cause)) = false
has_passed (refused n vs) = false
