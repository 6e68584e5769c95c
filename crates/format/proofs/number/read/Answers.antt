use Rattle.std.proofs.Common.{◌≡◌, ◌+◌, ◌-◌, arith}
use lib.ListN.{drop}
use Rattle.bits.proofs.Bytes.{bytes_drop, le_lt}
use Rattle.format.proofs.Joins.{le_starts, le_turn, le_fits}
use Rattle.format.proofs.number.read.Goals as goal

pub loop-i-init : goal.loop-i-init
loop-i-init g c = le_starts _ _

pub overflow_mul-v : goal.overflow_mul-v
overflow_mul-v g c =
    omega (arith, le_fits g.row.W c.args.at c.loop-i.i c.args.s.now (λ i. (c.type_inv.s i).fits) c.loop-i-test.true c.loop-i.auto.i (omega arith) c.loop-i.invariant)

pub overflow_add-v-in-loop-i : goal.overflow_add-v-in-loop-i
overflow_add-v-in-loop-i g c =
    omega (arith, le_fits g.row.W c.args.at c.loop-i.i c.args.s.now (λ i. (c.type_inv.s i).fits) c.loop-i-test.true c.loop-i.auto.i (omega arith) c.loop-i.invariant)

pub loop-i-preserved : goal.loop-i-preserved
loop-i-preserved g c =
    le_turn g.row.W c.args.at c.loop-i.i c.args.s.now (λ i. (c.type_inv.s i).fits) c.loop-i-test.true c.loop-i.auto.i (omega arith) c.loop-i.invariant

pub returns-clause-fits : goal.returns-clause-fits
returns-clause-fits g c =
    let l = c.loop-i in
    let z : g.row.W - l.i ≡ g.row.W = omega arith in
    rw (l.invariant, z) (le_lt g.row.W (drop (c.args.at + l.i) c.args.s.now) (bytes_drop (c.args.at + l.i) c.args.s.now (λ i. (c.type_inv.s i).fits)))
