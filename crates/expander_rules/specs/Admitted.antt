-- What a call has passed whose lengths and load are right (refusals 4 and 10). It serves internal contracts alone.
use Rattle.std.specs.Prelude.{ℕ, ◌≤◌, true, List, ◌≡◌, length}
use Rattle.machine.specs.Sizes.{stream_most}
use Rattle.expander_rules.specs.State.{load_formed}
use Rattle.expander_rules.specs.declared.Carried.{Carried}

pub record Admitted (c : Carried) (l : List ℕ) : Type 0 where
  pub stream : length l ≤ stream_most
  pub load : load_formed c.load ≡ true
