-- A word that does not pass changes nothing.
use Rattle.std.specs.Prelude.{ℕ, ◌≡◌, false}
use Rattle.machine.specs.Machine.{Machine}
use Rattle.machine.specs.Outcomes.{has_passed}
use Rattle.step_rules.specs.Step.{offer_of, step_of}

pub record Unchanged : Type 0 where
  -- "a stall changes nothing", nor does a refused word
  pub offered : (m : Machine) (t w : ℕ) → has_passed (offer_of m t w).outcome ≡ false → (offer_of m t w).after ≡ m
  -- "A refused call writes nothing"
  pub called : (m : Machine) (t w : ℕ) → has_passed (step_of m t w).outcome ≡ false → (step_of m t w).after ≡ m
