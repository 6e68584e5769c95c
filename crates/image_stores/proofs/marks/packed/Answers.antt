use Prim.Native.Nat.{ℕ, ◌+◌, ◌-◌, ◌*◌}
use mathlib.Core.Path.{◌≡◌, refl, sym, ap₂, ◌∙◌}
use native.Mathlib.Omega.{arith}
use lib.ListN.{drop}
use Rattle.image_layout.specs.Marks.{pack}
use Rattle.image_layout.proofs.MarkLaws.{pack_small, pack_next}
use Rattle.image_stores.proofs.marks.packed.Goals as goal

pub loop-i-init : goal.loop-i-init
unfolding pack
loop-i-init c = refl

pub overflow_mul-v : goal.overflow_mul-v
overflow_mul-v c =
    let l = c.loop-i in
    omega (arith, l.invariant, pack_small (8 - l.i) (drop (c.args.at + l.i) c.args.marks.now) (omega arith))

pub overflow_add-v : goal.overflow_add-v
overflow_add-v c =
    let l = c.loop-i in
    omega (arith, l.invariant, pack_small (8 - l.i) (drop (c.args.at + l.i) c.args.marks.now) (omega arith))

pub loop-i-preserved : goal.loop-i-preserved
loop-i-preserved c =
    let l = c.loop-i in
    let next = pack_next 8 c.args.at l.i c.args.marks.now c.loop-i-test.true l.auto.i (omega arith) in
    sym (next ∙ ap₂ (λ (b n : ℕ). b + 2 * n) (sym c.bit.ensures.0) (sym l.invariant))

pub returns : goal.returns
returns c =
    let l = c.loop-i in
    let e : 8 - l.i ≡ 8 = omega arith in
    let f : c.args.at + l.i ≡ c.args.at = omega arith in
    rw (e, f) at l.invariant
