use Rattle.program_emulate.proofs.Longer.{long_scripts}
use Rattle.program_emulate.proofs.promises.Goals as goal

pub returns : goal.returns
returns c = record { long = long_scripts }
