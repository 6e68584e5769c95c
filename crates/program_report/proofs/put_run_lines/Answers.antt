use Rattle.bits.proofs.Overwrite.{wrote_then}
use native.Mathlib.Omega.{arith}
use Rattle.program_report.specs.Lines.{run_lines}
use Rattle.program_report.proofs.put_run_lines.Goals as goal

pub returns-clause-wrote : goal.returns-clause-wrote
unfolding run_lines
returns-clause-wrote c = wrote_then c.put_end_line-p.ensures.wrote (wrote_then c.put_number_line-q.ensures.wrote c.put_thread_lines.ensures.wrote (omega arith)) (omega arith)
