use native.Mathlib.Omega.{arith}
use mathlib.Core.Path.{sym}
use lib.Seq.{length-take-le}
use Rattle.bits.proofs.Overwrite.{wrote_as}
use Rattle.machine.specs.Fresh.{machine_of}
use Rattle.run_order.specs.Ending.{told_ending}
use Rattle.run_order.specs.Stalls.{told_stalls}
use Rattle.program_records.proofs.Sound.{sound_facts}
use Rattle.program_emulate.proofs.Printed.{printed}
use Rattle.program_emulate.proofs.run_script.Goals as goal

pub slice_bounds-streams-end : goal.slice_bounds-streams-end
slice_bounds-streams-end c =
    let f = sound_facts _ _ c.requires.0 in sym (length-take-le c.args.script.counts.n0 _ (omega arith))

pub slice_bounds-streams-end-2 : goal.slice_bounds-streams-end-2
slice_bounds-streams-end-2 c =
    let f = sound_facts _ _ c.requires.0 in sym (length-take-le c.args.script.counts.n1 _ (omega arith))

pub slice_bounds-streams-end-3 : goal.slice_bounds-streams-end-3
slice_bounds-streams-end-3 c =
    let f = sound_facts _ _ c.requires.0 in sym (length-take-le c.args.script.counts.n2 _ (omega arith))

pub returns : goal.returns
returns c =
    let a = c.args in
    let r = c.run_whole-ran in
    let same = printed a.input.now a.script _ (told_ending r.result.answer) r.result.turns (machine_of c.fresh.result) (machine_of r.new.m) r.result.cursor (told_stalls r.result.stalls)
    c.read_streams.ensures c.fresh.ensures.whole r.ensures in
    record { wrote = wrote_as same c.put_run_lines.ensures.wrote; short = omega arith }
