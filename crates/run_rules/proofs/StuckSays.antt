-- What a stuck run tells of each thread.
use Rattle.run_rules.specs.StuckSays.{StuckSays}
use Rattle.run_rules.proofs.Settled.{run_settles}

pub stuck_says : StuckSays
stuck_says s m c budget e = (run_settles s m c budget e).says
