use native.Mathlib.Omega.{arith}
use Rattle.text.specs.Decimal.{digits_most}
use Rattle.text.proofs.Digits.{count_last, count_more, count_none}
use Rattle.text.proofs.digit_count.Goals as goal

pub returns-then-m-lt10 : goal.returns-then-m-lt10
returns-then-m-lt10 c = omega (arith, count_last digits_most c.loop-k.k c.loop-k.m c.loop-k-test.true c.if-m-lt10.true)

pub loop-k-preserved : goal.loop-k-preserved
loop-k-preserved c = omega (arith, count_more digits_most c.loop-k.k c.loop-k.m c.loop-k-test.true c.if-m-lt10.false)

pub returns : goal.returns
returns c = omega (arith, count_none digits_most c.loop-k.k c.loop-k.m c.loop-k-test.false)
