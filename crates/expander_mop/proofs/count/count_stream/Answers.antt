use native.Mathlib.Omega.{arith}
use Rattle.expander_rules.proofs.StreamLaws.{count_next, count_end}
use Rattle.expander_mop.proofs.count.count_stream.Goals as goal

pub returns-then-limit-n : goal.returns-then-limit-n
returns-then-limit-n c =
    let a = c.args in
    omega (arith, count_next a.nine.now a.input.now c.loop-word.word-index c.loop-word-test.true, c.count_emission-n.ensures)

pub loop-word-preserved : goal.loop-word-preserved
loop-word-preserved c =
    let a = c.args in
    omega (arith, count_next a.nine.now a.input.now c.loop-word.word-index c.loop-word-test.true, c.count_emission-n.ensures)

pub returns : goal.returns
returns c =
    let a = c.args in
    omega (arith, count_end a.nine.now a.input.now c.loop-word.word-index c.loop-word-test.false)
