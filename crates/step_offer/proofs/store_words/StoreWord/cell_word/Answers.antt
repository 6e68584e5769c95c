use Rattle.word_rules.specs.Table.{said}
use Rattle.step_offer.specs.StoreWords.{stores_in}
use Rattle.step_offer.proofs.store_words.StoreWord.cell_word.Goals as goal

pub returns-in-22-clause-answer : goal.returns-in-22-clause-answer
unfolding said
returns-in-22-clause-answer c dest = rw c.in-22.is (c.trnsp_src_b.ensures _ _ _ (stores_in c.args.s.now dest))

pub returns-in-11-clause-answer : goal.returns-in-11-clause-answer
unfolding said
returns-in-11-clause-answer c dest = rw c.in-11.is (c.mov_b2a.ensures _ _ (stores_in c.args.s.now dest))

pub returns-in-16-clause-answer : goal.returns-in-16-clause-answer
unfolding said
returns-in-16-clause-answer c dest = rw c.in-16.is (c.zero_acc.ensures _ _ _ (stores_in c.args.s.now dest))
