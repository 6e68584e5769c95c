use native.Mathlib.Omega.{arith}
use Rattle.image_layout.specs.Image.{bodies}
use Rattle.image_layout.proofs.SoundLaws.{scanned_ok, scanned_err}
use Rattle.image_scan.proofs.scan.Goals as goal

pub returns-then-good-size : goal.returns-then-good-size
returns-then-good-size c =
    let a = c.args in
    scanned_ok (bodies a.kind a.words) a.s.now (omega arith) c.image_good-good.ensures c.if-s-size.true c.if-good-size.true

pub returns-else-s-size : goal.returns-else-s-size
returns-else-s-size c =
    let a = c.args in
    scanned_err (bodies a.kind a.words) a.s.now (omega arith) c.image_good-good.ensures c.else-s-size.either
