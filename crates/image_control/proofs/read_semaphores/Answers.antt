use Prim.Native.Nat.{◌+◌, ◌*◌}
use mathlib.Core.Path.{refl, sym, ap, ◌∙◌}
use lib.Seq.{drop-drop}
use Rattle.bits.specs.Bytes.{le}
use Rattle.format.proofs.Joins.{le_byte}
use Rattle.format.proofs.Runs.{reading_starts, reading_goes, reading_ends}
use Rattle.image_layout.specs.Places.{semaphores_at}
use Rattle.image_control.proofs.read_semaphores.Goals as goal

pub loop-i-init : goal.loop-i-init
loop-i-init c = reading_starts refl

pub loop-i-preserved : goal.loop-i-preserved
loop-i-preserved c =
    let l = c.loop-i in
    let s = c.args.s.now in
    let p = semaphores_at + l.i * 2 in
    let second = le_byte (p + 1) s ∙ ap (le 1) (sym (drop-drop 1 p s)) in
    reading_goes l.invariant c.loop-i-test.true (λ j. record { value = le_byte p s j; maximum = second j })

pub returns : goal.returns
returns c = reading_ends c.loop-i.invariant c.loop-i-test.false
