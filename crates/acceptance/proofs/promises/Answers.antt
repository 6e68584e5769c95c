use Rattle.run_rules.proofs.Stuck.{stuck_for_good}
use Rattle.run_rules.proofs.Isolation.{isolated}
use Rattle.run_rules.proofs.Kept.{run_keeps}
use Rattle.run_rules.proofs.Chained.{chained}
use Rattle.run_rules.proofs.Observed.{observed}
use Rattle.run_rules.proofs.Ended.{ended}
use Rattle.run_rules.proofs.OfferedAgain.{offered_again}
use Rattle.step_rules.proofs.Kept.{keeps_formed}
use Rattle.step_rules.proofs.Unchanged.{unchanged}
use Rattle.step_rules.proofs.Causes.{causes_hold}
use Rattle.run_rules.proofs.StuckSays.{stuck_says}
use Rattle.dest.proofs.Covering.{views_cover}
use Rattle.image.proofs.Trips.{image_facts, round_trips}
use Rattle.bench_dest.proofs.DestBack.{dest_promises}
use Rattle.bench_gprs.proofs.GprBack.{gpr_promises}
use Rattle.bench_sources.proofs.SourceBack.{source_promises}
use Rattle.expander_rules.proofs.Pieces.{cut, joined_pieces}
use Rattle.expander_rules.proofs.Formed.{carries_formed}
use Rattle.expander_rules.proofs.Empty.{empty_loads}
use Rattle.expander_rules.proofs.Whole.{refused_pieces, stages, plain_streams, slots_handed_back, fresh_expander}
use Rattle.expander_rules.proofs.PlayBack.{back}
use Rattle.acceptance.proofs.Worked.{all_worked}
use Rattle.acceptance.proofs.promises.Goals as goal

pub returns : goal.returns
returns c = record { isolated = isolated; worked = all_worked; unchanged = unchanged; kept = keeps_formed; chained = chained; observed = observed; again = offered_again; ended = ended; keeps = run_keeps; stuck = stuck_for_good; causes = causes_hold; says = stuck_says; covers = views_cover; images = image_facts; trips = round_trips; gprs = gpr_promises; rows = dest_promises; sources = source_promises; cut = cut; joined = joined_pieces; refused = refused_pieces; formed = carries_formed; empty = empty_loads; stages = stages; plain = plain_streams; back = back; slots = slots_handed_back; fresh = fresh_expander }
