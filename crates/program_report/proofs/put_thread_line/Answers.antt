use Rattle.bits.proofs.Overwrite.{wrote_then}
use native.Mathlib.Omega.{arith}
use Rattle.program_report.specs.Lines.{thread_line}
use Rattle.program_report.proofs.put_thread_line.Goals as goal

pub returns-clause-wrote : goal.returns-clause-wrote
unfolding thread_line
returns-clause-wrote c =
    let rest = wrote_then c.put_decimal-u.ensures.wrote (wrote_then c.put_waits-v.ensures.wrote c.put_one.ensures (omega arith)) (omega arith) in
    wrote_then c.put_all-p.ensures (wrote_then c.put_decimal-q.ensures.wrote (wrote_then c.put_one-s.ensures rest (omega arith)) (omega arith)) (omega arith)
