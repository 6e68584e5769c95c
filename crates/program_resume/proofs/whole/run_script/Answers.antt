use native.Mathlib.Omega.{arith}
use mathlib.Core.Path.{sym, ap, ◌∙◌}
use lib.Seq.{length-take-le}
use Rattle.bits.proofs.Overwrite.{wrote_as}
use Rattle.machine.specs.Fresh.{machine_of}
use Rattle.run_rules.specs.Run.{Summary}
use Rattle.program_records.proofs.Sound.{whole_facts}
use Rattle.program_resume.specs.Told.{told_of}
use Rattle.program_resume.proofs.Loading.{named_run}
use Rattle.program_resume.proofs.Keeping.{ran_kept}
use Rattle.program_resume.proofs.whole.run_script.Goals as goal

pub slice_bounds-streams-end : goal.slice_bounds-streams-end
slice_bounds-streams-end c =
    let f = whole_facts _ _ c.requires.3 in sym (length-take-le c.args.script.counts.n0 _ (omega arith))

pub slice_bounds-streams-end-2 : goal.slice_bounds-streams-end-2
slice_bounds-streams-end-2 c =
    let f = whole_facts _ _ c.requires.3 in sym (length-take-le c.args.script.counts.n1 _ (omega arith))

pub slice_bounds-streams-end-3 : goal.slice_bounds-streams-end-3
slice_bounds-streams-end-3 c =
    let f = whole_facts _ _ c.requires.3 in sym (length-take-le c.args.script.counts.n2 _ (omega arith))

pub put_told-requires : goal.put_told-requires
put_told-requires c =
    let r = c.run_whole-ran in
    (ran_kept _ _ (machine_of r.new.m) c.args.script.cursor c.args.script.budget r.result r.ensures c.requires.0, c.requires.1, c.requires.2)

pub returns : goal.returns
returns c =
    let a = c.args in
    let same = c.run_whole-ran.ensures ∙ named_run a.tail.now (machine_of a.m.now) a.script _ c.read_streams.ensures in
    wrote_as (ap (λ (r : Summary). told_of a.came.now r a.script.counts) same) c.put_told.ensures
