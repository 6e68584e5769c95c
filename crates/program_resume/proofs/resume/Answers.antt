use mathlib.Core.Path.{sym}
use lib.Seq.{length-take-le}
use Rattle.bits.proofs.Overwrite.{wrote_as}
use Rattle.program_resume.proofs.Splitting.{image_short, whole_parts}
use Rattle.program_resume.proofs.resume.Goals as goal

pub slice_bounds-resume_parts-end : goal.slice_bounds-resume_parts-end
slice_bounds-resume_parts-end c =
    let e = c.image_end-n in sym (length-take-le e.result c.args.input.now e.ensures.within)

pub resume_parts-requires : goal.resume_parts-requires
resume_parts-requires c =
    let e = c.image_end-n in (c.requires, image_short c.args.input.now e.result e.ensures)

pub returns : goal.returns
returns c =
    let e = c.image_end-n in
    wrote_as (whole_parts c.args.input.now e.result e.ensures) c.resume_parts.ensures
