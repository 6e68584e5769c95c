use Rattle.bench_sources.proofs.SourceBack.{source_promises}
use Rattle.bench_sources.proofs.promises.Goals as goal

pub returns : goal.returns
returns c = source_promises
