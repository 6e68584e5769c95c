use mathlib.Core.Path.{sym}
use Rattle.bits.proofs.Overwrite.{wrote_then, over_none}
use native.Mathlib.Omega.{arith}
use Rattle.program_report.specs.Lines.{waits_of}
use Rattle.program_report.proofs.put_waits.Goals as goal

pub returns-in-None : goal.returns-in-None
unfolding waits_of
returns-in-None c =
    let a = c.args in
    rw c.in-None.is (record { wrote = record { placed = omega arith; list = sym (over_none a.out.now a.at) }; short = omega arith })

pub returns-in-Some : goal.returns-in-Some
unfolding waits_of
returns-in-Some c =
    let written = wrote_then c.put_all-p.ensures (wrote_then c.put_decimal-q.ensures.wrote (wrote_then c.put_one-u.ensures c.put_decimal.ensures.wrote (omega arith)) (omega arith)) (omega arith) in
    rw c.in-Some.is (record { wrote = rw (← c.number-number.ensures, ← c.cause-cause.ensures) written; short = omega arith })
