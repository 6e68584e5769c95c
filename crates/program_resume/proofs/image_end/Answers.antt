use Rattle.program_resume.proofs.Splitting.{split_min}
use Rattle.program_resume.proofs.image_end.Goals as goal

pub returns : goal.returns
returns c = split_min c.args.s.now _ c.min.ensures
