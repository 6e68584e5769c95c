use Rattle.std.proofs.Common.{arith}
use Rattle.expander_rules.proofs.Whole.{answer_fits}
use Rattle.expand.proofs.expand_words.Goals as goal

pub print_answer-requires : goal.print_answer-requires
print_answer-requires c =
    (omega (arith, answer_fits _ _ _ _ c.expand-done.result.answer _ _ c.expand-done.ensures), omega (arith, c.requires.0), c.requires.1)
