use Rattle.std.proofs.Common.{◌*◌, drop, length-drop, arith, ◌∙◌}
use native.Mathlib.Nat.{mul-le-mul_right}
use Rattle.bits.proofs.Bytes.{bytes_drop}
use Rattle.format.proofs.Fields.{checking_starts, checking_goes, checking_stops, checking_ends, run_within, any_some}
use Rattle.format.proofs.check.fields.Goals as goal

pub returns-then-hi-largest : goal.returns-then-hi-largest
returns-then-hi-largest g c =
    let w = g.row.W in
    let a = c.args in
    let b = bytes_drop a.at a.s.now (λ i. (c.type_inv.s i).fits) in
    let some = any_some w (omega arith) a.n (drop a.at a.s.now) b c.saturating_sub.result (simp length-drop c.saturating_sub.ensures) in
    (rw (c.if-hi-largest.true ∙ c.largest.ensures, c.min.ensures) some, mul-le-mul_right w (omega (arith, c.min.ensures)))

pub loop-i-init : goal.loop-i-init
loop-i-init g c = checking_starts

pub returns-then-good : goal.returns-then-good
returns-then-good g c =
    let l = c.loop-i in
    let more = c.loop-i-test.true in
    let e = c.field-good.ensures.0 in
    (rw e (checking_stops l.invariant more (omega arith)), omega (arith, run_within 0 c.args.n l.i g.row.W (c.args.n * g.row.W) more (omega arith)))

pub loop-i-preserved : goal.loop-i-preserved
loop-i-preserved g c = checking_goes c.loop-i.invariant c.loop-i-test.true (omega (arith, c.field-good.ensures.0))

pub returns : goal.returns
returns g c = (checking_ends c.loop-i.invariant c.loop-i-test.false, omega arith)
