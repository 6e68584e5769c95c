use Rattle.dest.proofs.Examples.{worked}
use Rattle.dest.proofs.Covering.{views_cover}
use Rattle.dest.proofs.promises.Goals as goal

pub returns : goal.returns
returns c = record { examples = worked; covers = views_cover }
