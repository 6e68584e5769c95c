use Rattle.image.proofs.Trips.{image_facts, round_trips}
use Rattle.image.proofs.promises.Goals as goal

pub returns : goal.returns
returns c = record { facts = image_facts; trips = round_trips }
