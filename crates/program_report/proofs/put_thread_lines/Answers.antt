use Rattle.bits.proofs.Overwrite.{wrote_then}
use native.Mathlib.Omega.{arith}
use Rattle.program_report.specs.Lines.{thread_lines}
use Rattle.program_report.proofs.put_thread_lines.Goals as goal

pub returns-clause-wrote : goal.returns-clause-wrote
unfolding thread_lines
returns-clause-wrote c =
    let written = wrote_then c.put_thread_line-p.ensures.wrote (wrote_then c.put_thread_line-q.ensures.wrote c.put_thread_line.ensures.wrote (omega arith)) (omega arith) in
    rw (← c.stalls_told-told.ensures) written
