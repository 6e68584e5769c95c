use mathlib.Core.Path.{ap, ◌∙◌}
use native.Mathlib.Omega.{arith}
use lib.ListN.{drop}
use Rattle.bits.specs.Bytes.{le}
use Rattle.machine.specs.Sizes.{block_most}
use Rattle.format.specs.Format.{num, most_after}
use Rattle.format.proofs.Fields.{across_of, inside, after_kind_good}
use Rattle.image_layout.specs.Control.{low_most}
use Rattle.image_scan.proofs.waits.thread_good.Goals as goal

pub returns : goal.returns
returns c =
    let at = c.args.at in
    let s = c.args.s.now in
    let kind = c.kind_at-k.ensures in
    let k = le 1 (drop at s) in
    let most = c.low_most.ensures ∙ ap low_most kind in
    let blocked = after_kind_good 2 block_most at 1 s c.field-b.ensures.0 c.most_after.ensures kind in
    let lowest = after_kind_good 2 (low_most k) at 3 s c.field-l.ensures.0 (c.most_after-2.ensures ∙ ap (most_after _) most) kind in (
      across_of 1 c.good_across-2.ensures.0 c.field-a.ensures.0
          (across_of 2 c.good_across.ensures.0 blocked (inside (num 2 0 (most_after k (low_most k))).good 2 1 (drop at s) lowest)),
      omega arith,
    )
