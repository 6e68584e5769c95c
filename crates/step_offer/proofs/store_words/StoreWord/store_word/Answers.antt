use Rattle.word_rules.specs.Table.{said}
use Rattle.step_offer.specs.StoreWords.{stores_in}
use Rattle.step_offer.proofs.store_words.StoreWord.store_word.Goals as goal

pub returns-in-69-clause-answer : goal.returns-in-69-clause-answer
unfolding said
returns-in-69-clause-answer c dest = rw c.in-69.is (c.set_dma_reg.ensures _ _ _ _ (stores_in c.args.s.now dest))

pub returns-in-88-clause-answer : goal.returns-in-88-clause-answer
unfolding said
returns-in-88-clause-answer c dest = rw c.in-88.is (c.arithmetic.ensures _ _ _ _ (stores_in c.args.s.now dest))

pub returns-in-90-clause-answer : goal.returns-in-90-clause-answer
unfolding said
returns-in-90-clause-answer c dest = rw c.in-90.is (c.arithmetic-in-90.ensures _ _ _ _ (stores_in c.args.s.now dest))

pub returns-in-96-clause-answer : goal.returns-in-96-clause-answer
unfolding said
returns-in-96-clause-answer c dest = rw (c.in-96.is, ← c.index.ensures.value) (c.dma_nop.ensures _ _ _ _ (stores_in c.args.s.now dest))
