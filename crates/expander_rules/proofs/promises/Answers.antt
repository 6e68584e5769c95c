use Rattle.expander_rules.proofs.PlayBack.{back}
use Rattle.expander_rules.proofs.ReplayLaws.{slots_kept, plain_words}
use Rattle.expander_rules.proofs.Pieces.{cut, joined_pieces}
use Rattle.expander_rules.proofs.Formed.{carries_formed}
use Rattle.expander_rules.proofs.Empty.{empty_loads}
use Rattle.expander_rules.proofs.Examples.{examples}
use Rattle.expander_rules.proofs.Whole.{refused_pieces, stages, plain_streams, slots_handed_back, fresh_expander}
use Rattle.expander_rules.proofs.promises.Goals as goal

pub returns : goal.returns
returns c = record { back = back; kept = slots_kept; words = plain_words; cut = cut; joined = joined_pieces; refused = refused_pieces; formed = carries_formed; empty = empty_loads; examples = examples; stages = stages; plain = plain_streams; slots = slots_handed_back; fresh = fresh_expander }
