use Rattle.bench_dest.proofs.DestBack.{dest_promises}
use Rattle.bench_dest.proofs.promises.Goals as goal

pub returns : goal.returns
returns c = dest_promises
