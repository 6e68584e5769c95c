use Rattle.bench_gprs.proofs.GprBack.{gpr_promises}
use Rattle.bench_gprs.proofs.promises.Goals as goal

pub returns : goal.returns
returns c = gpr_promises
