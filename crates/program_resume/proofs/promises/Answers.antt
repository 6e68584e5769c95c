use Rattle.program_resume.proofs.Longer.{long_resumes}
use Rattle.program_resume.proofs.promises.Goals as goal

pub returns : goal.returns
returns c = record { long = long_resumes }
