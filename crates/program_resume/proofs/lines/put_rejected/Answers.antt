use native.Mathlib.Omega.{arith}
use Rattle.bits.proofs.Overwrite.{wrote_then}
use Rattle.program_resume.proofs.lines.put_rejected.Goals as goal

pub returns : goal.returns
returns c = wrote_then c.put_end_line-p.ensures.wrote c.put_all.ensures (omega arith)
