use native.Mathlib.Omega.{arith}
use Rattle.format.specs.Format.{both}
use Rattle.format.proofs.Fields.{both_good_start}
use Rattle.image_layout.specs.Image.{control_record, words_format, dest_format, sources_format}
use Rattle.image_scan.proofs.image_good.Goals as goal

pub returns : goal.returns
returns c =
    let a = c.args in
    let s = a.s.now in
    let words = words_format a.kind a.words in
    let two = both control_record words in
    let first = both_good_start control_record words s (omega arith) c.good_across-a.ensures.0 in
    let second = both_good_start two dest_format s (omega arith) c.good_across-b.ensures.0 in
    let third = both_good_start (both two dest_format) sources_format s (omega arith) c.good_across.ensures.0 in
    third (second (first c.control_good-c.ensures.0 c.words_good-w.ensures.0) c.dest_good-d.ensures.0)
    c.sources_good.ensures.0
