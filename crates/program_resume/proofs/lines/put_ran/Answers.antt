use native.Mathlib.Omega.{arith}
use Rattle.bits.proofs.Overwrite.{wrote_then}
use Rattle.program_resume.proofs.lines.put_ran.Goals as goal

pub returns : goal.returns
returns c =
    wrote_then (wrote_then c.put_run_lines-p.ensures.wrote c.put_number_line-q.ensures.wrote (omega arith)) c.put_image.ensures (omega arith)
