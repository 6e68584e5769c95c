-- A word keeps a well-formed machine well formed.
use Rattle.std.specs.Prelude.{ℕ, ◌<◌, ◌≡◌, true}
use Rattle.machine.specs.Sizes.{thread_count}
use Rattle.machine.specs.Machine.{Machine}
use Rattle.machine.specs.Formed.{well_formed}
use Rattle.step_rules.specs.Step.{offer_of, step_of}

pub record KeepsFormed : Type 0 where
  pub offered : (m : Machine) (t w : ℕ) → t < thread_count → well_formed m ≡ true → well_formed (offer_of m t w).after ≡ true
  pub called : (m : Machine) (t w : ℕ) → well_formed m ≡ true → well_formed (step_of m t w).after ≡ true
