use mathlib.Core.Path.{ap, ◌∙◌}
use lib.ListN.{drop}
use Rattle.bits.specs.Bytes.{le}
use Rattle.format.proofs.Fields.{inside}
use Rattle.image_layout.specs.Control.{wait_of_triple}
use Rattle.image_control.proofs.waits.read_thread.Goals as goal

pub returns : goal.returns
returns c =
    let a = c.args in
    let s = a.s.now in
    let block = inside (le 2) 1 a.at s c.read-block.ensures.value in
    let low = inside (le 2) 2 1 (drop a.at s) (inside (le 2) 3 a.at s c.read-low.ensures.value) in
    let wait = c.wait_of_triple.ensures ∙ ap wait_of_triple (λ i. (c.read-kind.ensures.value i, (block i, low i))) in
    λ i. record { wait = wait i }
