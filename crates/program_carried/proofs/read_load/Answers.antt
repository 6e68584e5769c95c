use mathlib.Core.Path.{◌∙◌}
use lib.ListN.{drop}
use Rattle.bits.specs.Bytes.{le}
use Rattle.format.proofs.Fields.{inside}
use Rattle.program_carried.specs.CarriedFormat.{load_from}
use Rattle.program_carried.proofs.read_load.Goals as goal

pub returns : goal.returns
returns c =
    let at = c.args.at in
    let s = c.args.s.now in
    let next = inside (le 4) 1 at s c.read-next.ensures.value in
    let left = inside (le 4) 4 1 (drop at s) (inside (le 4) 5 at s c.read-left.ensures.value) in
    let shown = inside (le 1) 4 4 (drop 1 (drop at s)) (inside (le 1) 8 1 (drop at s) (inside (le 1) 9 at s c.read-shown.ensures.value)) in
    c.load_from.ensures ∙ (λ i. load_from (c.read-kind.ensures.value i, (next i, (left i, shown i))))
