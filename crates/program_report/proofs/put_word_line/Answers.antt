use Rattle.bits.proofs.Overwrite.{wrote_then}
use native.Mathlib.Omega.{arith}
use Rattle.program_report.proofs.put_word_line.Goals as goal

pub returns-clause-wrote : goal.returns-clause-wrote
returns-clause-wrote c = wrote_then c.put_all-p.ensures (wrote_then c.put_all-q.ensures c.put_one.ensures (omega arith)) (omega arith)
