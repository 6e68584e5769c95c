use Rattle.std.proofs.Common.{rules, tests, ◌∙◌}
use Rattle.std.proofs.lemmas.Iterator.{YieldsList-from_slice}
use Rattle.std.proofs.lemmas.Iterator.Search.{any_from_yields_List}
use Rattle.expander_rules.specs.Stream.{is_replay}
use Rattle.expander_rules.proofs.Words.{any_listed}
use Rattle.expander_replay.proofs.loads.any_replay.Goals as goal

pub returns : goal.returns
returns c =
    let words = c.args.words.now in
    any_from_yields_List is_replay _ _ _ c.any.ensures.ran (YieldsList-from_slice words cc) (λ x b q k. search (rules, tests)) ∙ any_listed is_replay words
