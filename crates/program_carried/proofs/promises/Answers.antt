use Rattle.program_carried.proofs.Laws.{carried_records}
use Rattle.program_carried.proofs.promises.Goals as goal

pub returns : goal.returns
returns c = record { records = carried_records }
