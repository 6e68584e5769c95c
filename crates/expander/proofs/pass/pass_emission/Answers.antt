use Rattle.expander_rules.proofs.StreamLaws.{word_config}
use Rattle.expander_replay.proofs.Passing.{passes_none}
use Rattle.expander.proofs.pass.pass_emission.Goals as goal

pub returns-in-3 : goal.returns-in-3
returns-in-3 c =
    let a = c.args in
    rw (word_config a.nine.now.words a.high a.word (rw c.field.ensures.value at c.in-3.is)) (passes_none a.slots.now a.p a.out.now)
