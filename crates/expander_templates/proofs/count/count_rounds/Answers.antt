use Rattle.std.proofs.Common.{arith}
use Rattle.expander_rules.specs.Counts.{outer_count}
use Rattle.expander_rules.proofs.Rounds.{round_within, rounds_over}
use Rattle.expander_templates.proofs.count.count_rounds.Goals as goal
use Rattle.expander_templates.proofs.count.count_rounds.Goals.{else-outer-test, then-outer-test+then-loop-j-test+then-limit-n, then-outer-test+else-loop-j-test+then-limit-n-2}

pub returns : goal.returns
returns c =
    let a = c.args in
    let o = c.outer.o in
    let e = outer_count a.inner in
    elim c.outer-test.branch [
      | else-outer-test w ↦ omega (arith, rounds_over o a.outer e c.outer.auto.o-end w.outer-test.false)
      | then-outer-test+then-loop-j-test+then-limit-n w ↦ omega (arith, round_within o a.outer e w.outer-test.true)
      | then-outer-test+else-loop-j-test+then-limit-n-2 w ↦ omega (arith, round_within o a.outer e w.outer-test.true)
    ]
