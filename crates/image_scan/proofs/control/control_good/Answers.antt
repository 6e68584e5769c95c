use native.Mathlib.Omega.{arith}
use Rattle.format.proofs.Fields.{three_good, kind_good}
use Rattle.image_layout.specs.Control.{locks_format, waits_format, banks_format, control_format}
use Rattle.image_layout.specs.Places.{settings_at}
use Rattle.image_scan.proofs.control.control_good.Goals as goal

pub returns : goal.returns
returns c =
    let s = c.args.s.now in
    let three = three_good locks_format waits_format banks_format settings_at s in
    let body = three c.good_across-body.ensures.0 c.good_across.ensures.0 in
    let parts = body c.locks_good-l.ensures.0 c.waits_good-w.ensures.0 c.banks_good-b.ensures.0 in
    (kind_good 1 control_format 0 s c.good_across-2.ensures.0 c.head-h.ensures.0 parts, omega arith)
