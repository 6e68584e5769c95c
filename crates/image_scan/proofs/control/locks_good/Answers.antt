use mathlib.Core.Path.{sym, ◌∙◌}
use native.Mathlib.Omega.{arith}
use lib.ListN.{drop}
use Rattle.machine.specs.Sizes.{setting_count, mutex_count, semaphore_count, half_most, holder_most, semaphore_most}
use Rattle.format.specs.Format.{num_good, many, numbers}
use Rattle.format.proofs.Fields.{three_good, num_le, pairs_good}
use Rattle.image_layout.specs.Control.{semaphore_format}
use Rattle.image_layout.specs.Places.{settings_at, semaphores_at}
use Rattle.image_scan.proofs.control.locks_good.Goals as goal

pub returns : goal.returns
returns c =
    let s = c.args.s.now in
    let settings = numbers setting_count 2 half_most in
    let mutexes = numbers mutex_count 1 holder_most in
    let pairs = pairs_good (num_good 1 0 semaphore_most) 1 (num_le 1 0 semaphore_most) semaphore_count (drop semaphores_at s) in
    let three = three_good settings mutexes (many semaphore_count semaphore_format) settings_at s in
    let parts = three c.good_across-2.ensures.0 c.good_across.ensures.0 in
    (parts c.fields-a.ensures.0 c.fields-b.ensures.0 (c.fields-c.ensures.0 ∙ sym pairs), omega arith)
