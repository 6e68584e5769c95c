use Rattle.run_rules.proofs.Stuck.{stuck_for_good}
use Rattle.run_rules.proofs.StuckSays.{stuck_says}
use Rattle.run_rules.proofs.Isolation.{isolated}
use Rattle.run_rules.proofs.Kept.{run_keeps}
use Rattle.run_rules.proofs.Chained.{chained}
use Rattle.run_rules.proofs.Observed.{observed}
use Rattle.run_rules.proofs.Ended.{ended}
use Rattle.run_rules.proofs.OfferedAgain.{offered_again}
use Rattle.run_rules.proofs.promises.Goals as goal

pub returns : goal.returns
returns c = record { isolated = isolated; chained = chained; observed = observed; again = offered_again; ended = ended; keeps = run_keeps; stuck = stuck_for_good; says = stuck_says }
