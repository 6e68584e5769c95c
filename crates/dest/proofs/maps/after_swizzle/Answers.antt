use Rattle.dest.proofs.maps.after_swizzle.Goals as goal

pub returns-then-flags : goal.returns-then-flags
returns-then-flags c = rw c.if-flags.true c.swizzle.ensures
