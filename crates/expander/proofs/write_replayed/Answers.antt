use mathlib.Core.Path.{ap}
use native.Mathlib.Omega.{arith}
use Rattle.expander_rules.specs.Replay.{Buffer}
use Rattle.expander_rules.specs.Call.{expansion_of}
use Rattle.expander.proofs.write_replayed.Goals as goal

pub pass_stream-handed-requires : goal.pass_stream-handed-requires
unfolding expansion_of
pass_stream-handed-requires c = (c.requires.0, omega (arith, c.requires.1))

pub returns-clause-onward : goal.returns-clause-onward
unfolding expansion_of
returns-clause-onward c =
    let p = c.pass_stream-handed.ensures in
    rw (p.mask, ap (λ (b : Buffer). b.slots) p.taken, ap (λ (b : Buffer). b.load) p.taken)

pub returns-clause-wrote : goal.returns-clause-wrote
unfolding expansion_of
returns-clause-wrote c = c.pass_stream-handed.ensures.wrote
