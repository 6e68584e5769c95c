use mathlib.Core.Path.{refl, sym, ◌∙◌}
use native.Mathlib.Omega.{arith}
use Rattle.bits.proofs.Overwrite.{over_next, over_end}
use Rattle.bits.proofs.put.put_all.Goals as goal

pub loop-i-preserved : goal.loop-i-preserved
loop-i-preserved g c = over_next _ _ _ _ _ c.index-items-i.is (omega arith) c.loop-i-test.true (omega arith) ∙ c.loop-i.invariant

pub returns : goal.returns
returns g c = record { placed = refl; list = sym (over_end _ _ _ _ c.loop-i-test.false) ∙ c.loop-i.invariant }
