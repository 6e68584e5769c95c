use Rattle.step_rules.proofs.Kept.{keeps_formed}
use Rattle.step_rules.proofs.Unchanged.{unchanged}
use Rattle.step_rules.proofs.Alike.{offers_alike}
use Rattle.step_rules.proofs.Causes.{causes_hold}
use Rattle.step_rules.proofs.promises.Goals as goal

pub returns : goal.returns
returns c = record { kept = keeps_formed; unchanged = unchanged; alike = offers_alike; causes = causes_hold }
