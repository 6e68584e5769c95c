use Prim.Native.Nat.{ℕ}
use mathlib.Core.Path.{ap, ◌∙◌}
use native.Mathlib.Omega.{arith}
use Rattle.bits.specs.Bytes.{Bytes}
use Rattle.bits.proofs.Overwrite.{wrote_as}
use Rattle.machine.specs.Fresh.{machine_of}
use Rattle.image.specs.Calls.{load_of}
use Rattle.program_resume.proofs.Loading.{parts_bad, parts_taken, loaded_formed}
use Rattle.program_resume.proofs.whole.resume_parts.Goals as goal

pub resume_records-requires : goal.resume_records-requires
resume_records-requires c =
    let a = c.args in
    let l = c.load_whole in
    let load = l.ensures ∙ ap (load_of a.came.now) c.fresh-m.ensures.whole in
    let bytes : Bytes a.came.now = λ (i : ℕ). omega (arith, c.type_inv.came i) in
    (loaded_formed a.came.now a.tail.now l.result (machine_of l.new.m) load c.in-Ok.is bytes, c.requires.0, c.requires.1)

pub returns-in-Err : goal.returns-in-Err
returns-in-Err c =
    let a = c.args in
    let l = c.load_whole in
    let load = l.ensures ∙ ap (load_of a.came.now) c.fresh-m.ensures.whole in
    let o = c.bad_offset in
    wrote_as (parts_bad a.came.now a.tail.now l.result (machine_of l.new.m) load c.in-Err.r o.result o.ensures c.in-Err.is) c.put_number_line.ensures.wrote

pub returns-in-Ok : goal.returns-in-Ok
returns-in-Ok c =
    let a = c.args in
    let l = c.load_whole in
    let load = l.ensures ∙ ap (load_of a.came.now) c.fresh-m.ensures.whole in
    wrote_as (parts_taken a.came.now a.tail.now l.result (machine_of l.new.m) load c.in-Ok.is) c.resume_records.ensures
