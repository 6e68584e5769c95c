-- What a survey of words tells. These definitions serve internal contracts alone.
use Rattle.std.specs.Prelude.{ℕ, ◌+◌, ◌≤◌, true, false, Option, Some, None, List, ◌≡◌}
use Rattle.expander_rules.specs.Sizes.{needed_most}
use Rattle.expander_rules.specs.Replay.{loads_after, any_obeyed_badly}
use Rattle.expander_rules.specs.Counts.{capped, played_count}
use Rattle.expander_replay.specs.declared.survey.Survey.{Survey}

-- a survey that may go on
pub record Surveying (s : Survey) (limit : ℕ) : Type 0 where
  pub small : s.count ≤ limit + 1
  pub most : limit ≤ needed_most

-- s goes on over l, in which no bad REPLAY is obeyed: how many words are written out, added to those before them, and the load after
-- them
pub record Counted (s : Survey) (l : List ℕ) (limit : ℕ) (t : Survey) : Type 0 where
  pub fine : any_obeyed_badly s.load l ≡ false
  pub small : t.count ≤ limit + 1
  pub counted : t.count ≡ capped limit (s.count + played_count s.load l)
  pub onward : t.load ≡ loads_after s.load l

-- whether a bad REPLAY is obeyed, and if not, that
abbrev pub Surveyed : Survey → List ℕ → ℕ → Option Survey → Type 0
Surveyed s l limit None = any_obeyed_badly s.load l ≡ true
Surveyed s l limit (Some t) = Counted s l limit t
