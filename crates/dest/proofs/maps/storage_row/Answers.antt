use Rattle.dest.specs.Maps.{storage16}
use Rattle.dest.proofs.maps.storage_row.Goals as goal

pub returns : goal.returns
unfolding storage16
returns c = rw c.after_remap.ensures
