use Rattle.std.proofs.Common.{sym, ◌∙◌, refl, arith, add-zero, length-set}
use native.Mathlib.Nat.{sub-zero}
use Rattle.bits.proofs.Copies.{copied_step, copied_none}
use Rattle.bits.proofs.copy.copy_words.Goals as goal

pub loop-i-init : goal.loop-i-init
loop-i-init c = (refl, simp (sub-zero, add-zero))

pub loop-i-preserved : goal.loop-i-preserved
loop-i-preserved c = (simp length-set c.loop-i.invariant.0, sym (copied_step _ _ _ _ _ _ c.loop-i-test.true) ∙ c.loop-i.invariant.1)

pub returns : goal.returns
returns c = sym (copied_none _ _ _ _ _ (omega arith)) ∙ c.loop-i.invariant.1
