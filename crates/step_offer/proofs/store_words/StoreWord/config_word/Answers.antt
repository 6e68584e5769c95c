use Rattle.word_rules.specs.Table.{said}
use Rattle.step_offer.specs.StoreWords.{stores_in}
use Rattle.step_offer.proofs.store_words.StoreWord.config_word.Goals as goal

pub returns-in-176-clause-answer : goal.returns-in-176-clause-answer
unfolding said
returns-in-176-clause-answer c dest = rw c.in-176.is (c.wr_cfg.ensures _ _ _ (stores_in c.args.s.now dest))

pub returns-in-177-clause-answer : goal.returns-in-177-clause-answer
unfolding said
returns-in-177-clause-answer c dest = rw c.in-177.is (c.rd_cfg.ensures _ _ _ (stores_in c.args.s.now dest))

pub returns-in-178-clause-answer : goal.returns-in-178-clause-answer
unfolding said
returns-in-178-clause-answer c dest = rw c.in-178.is (c.set_c16.ensures _ _ _ _ _ (stores_in c.args.s.now dest))

pub returns-in-179-clause-answer : goal.returns-in-179-clause-answer
unfolding said
returns-in-179-clause-answer c dest = rw c.in-179.is (c.rmw_cib.ensures _ _ _ _ (stores_in c.args.s.now dest))

pub returns-in-180-clause-answer : goal.returns-in-180-clause-answer
unfolding said
returns-in-180-clause-answer c dest = rw c.in-180.is (c.rmw_cib-in-180.ensures _ _ _ _ (stores_in c.args.s.now dest))

pub returns-in-181-clause-answer : goal.returns-in-181-clause-answer
unfolding said
returns-in-181-clause-answer c dest = rw c.in-181.is (c.rmw_cib-in-181.ensures _ _ _ _ (stores_in c.args.s.now dest))

pub returns-in-182-clause-answer : goal.returns-in-182-clause-answer
unfolding said
returns-in-182-clause-answer c dest = rw c.in-182.is (c.rmw_cib-in-182.ensures _ _ _ _ (stores_in c.args.s.now dest))
