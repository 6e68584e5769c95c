use native.Mathlib.Omega.{arith}
use Rattle.format.proofs.Writes.{wrote_next}
use Rattle.image.proofs.whole.write_machine.Goals as goal

pub returns : goal.returns
returns c =
    let control = rw c.in-Some.ensures.cases.same at c.write_control.ensures in
    let words = rw (c.in-Some-as_array.ensures.cases.same, c.in-Some-as_array-2.ensures.cases.same) at c.write_word_stores.ensures in
    let dest = rw (c.in-Some-as_array-3.ensures.cases.same, c.in-Some-as_array-4.ensures.cases.same) at c.write_dest.ensures in
    let sources = rw (c.in-Some-as_array-5.ensures.cases.same, c.in-Some-as_array-6.ensures.cases.same) at c.write_sources.ensures in
    wrote_next (omega arith) (wrote_next (omega arith) (wrote_next (omega arith) control (λ h. words)) (λ h. dest)) (λ h. sources)
