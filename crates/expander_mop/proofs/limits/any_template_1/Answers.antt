use Rattle.std.proofs.Common.{rules, tests, ◌∙◌}
use Rattle.std.proofs.lemmas.Iterator.{YieldsList-from_slice}
use Rattle.std.proofs.lemmas.Iterator.Search.{any_from_yields_List}
use Rattle.expander_rules.specs.Stream.{is_template1}
use Rattle.expander_rules.proofs.Words.{any_listed}
use Rattle.expander_mop.proofs.limits.any_template_1.Goals as goal

pub returns : goal.returns
returns c =
    let words = c.args.input.now in
    any_from_yields_List is_template1 _ _ _ c.any.ensures.ran (YieldsList-from_slice words cc) (λ x b q k. search (rules, tests)) ∙ any_listed is_template1 words
