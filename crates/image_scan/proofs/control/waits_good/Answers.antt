use native.Mathlib.Omega.{arith}
use Rattle.format.proofs.Fields.{three_good}
use Rattle.image_layout.specs.Control.{thread_format}
use Rattle.image_layout.specs.Places.{waits_at}
use Rattle.image_scan.proofs.control.waits_good.Goals as goal

pub returns : goal.returns
returns c =
    let s = c.args.s.now in
    let three = three_good thread_format thread_format thread_format waits_at s c.good_across-2.ensures.0 c.good_across.ensures.0 in
    (three c.thread_good-a.ensures.0 c.thread_good-b.ensures.0 c.thread_good-c.ensures.0, omega arith)
