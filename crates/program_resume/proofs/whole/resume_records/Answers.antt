use mathlib.Core.Path.{sym, ◌∙◌}
use native.Mathlib.Omega.{arith}
use Rattle.program_records.proofs.Sound.{faulty_near}
use Rattle.program_resume.proofs.whole.resume_records.Goals as goal

pub overflow_add-bad : goal.overflow_add-bad
overflow_add-bad c =
    omega (arith, faulty_near c.args.tail.now c.in-Err.bad.at (sym c.read_resume_script.ensures ∙ c.in-Err.is))
