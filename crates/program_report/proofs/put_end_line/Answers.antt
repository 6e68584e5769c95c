use Rattle.program_report.specs.Lines.{end_line}
use Rattle.bits.proofs.Overwrite.{wrote_then}
use native.Mathlib.Omega.{arith}
use Rattle.program_report.proofs.put_end_line.Goals as goal

pub returns-in-WordRefused-clause-wrote : goal.returns-in-WordRefused-clause-wrote
unfolding end_line
returns-in-WordRefused-clause-wrote c = rw (c.in-WordRefused.is, ← c.from.ensures) (wrote_then c.put_all-p.ensures c.put_number_line.ensures.wrote (omega arith))
