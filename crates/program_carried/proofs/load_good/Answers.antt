use native.Mathlib.Omega.{arith}
use lib.ListN.{drop}
use Rattle.bits.specs.Bytes.{le}
use Rattle.machine.specs.Sizes.{word_most}
use Rattle.format.specs.Format.{num, most_after}
use Rattle.format.proofs.Fields.{across_of, inside, after_kind_good}
use Rattle.program_carried.proofs.load_good.Goals as goal

pub returns : goal.returns
returns c =
    let kind = c.read-k.ensures.value in
    let at = c.args.at in
    let s = c.args.s.now in
    let next = after_kind_good 4 word_most at 1 s c.field-next.ensures.0 c.most_after.ensures kind in
    let left = after_kind_good 4 word_most at 5 s c.field-left.ensures.0 c.most_after-2.ensures kind in
    let shown = after_kind_good 1 1 at 9 s c.field-shown.ensures.0 c.most_after-3.ensures kind in
    let word = (num 4 0 (most_after (le 1 (drop at s)) word_most)).good in
    let byte = (num 1 0 (most_after (le 1 (drop at s)) 1)).good in
    let last = inside byte 4 4 (drop 1 (drop at s)) (inside byte 8 1 (drop at s) shown) in
    let two = across_of 4 c.good_across.ensures.0 (inside word 4 1 (drop at s) left) last in
    (across_of 1 c.good_across-3.ensures.0 c.field-kind.ensures.0 (across_of 4 c.good_across-2.ensures.0 next two), omega arith)
