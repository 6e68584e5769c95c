use mathlib.Core.Path.{refl, sym, ap, ◌∙◌}
use lib.ListN.{get_or}
use Rattle.expander_rules.specs.Stream.{Emission, emission_of, stream_of}
use Rattle.expander_rules.proofs.StreamLaws.{stream_next, stream_end}
use Rattle.expander_templates.proofs.Writing.{left_start, left_room, left_next, left_done}
use Rattle.expander_mop.proofs.stream.put_stream.Goals as goal

pub loop-word-init : goal.loop-word-init
loop-word-init c =
    let a = c.args in
    (refl, left_start a.out.now a.at (stream_of a.nine.now a.high a.input.now).words c.requires)

pub put_emission-p-requires : goal.put_emission-p-requires
put_emission-p-requires c =
    let l = c.loop-word in
    let m = c.args.nine.now in
    let input = c.args.input.now in
    let next = ap (λ (x : Emission). x.words) (stream_next m input l.word-index c.loop-word-test.true l.mask) in
    left_room l.invariant.1 (emission_of m l.mask (get_or input l.word-index 0)).words _ next

pub loop-word-preserved : goal.loop-word-preserved
loop-word-preserved c =
    let l = c.loop-word in
    let a = c.args in
    let m = a.nine.now in
    let next = rw (← c.mask_after-mask.ensures m) at (stream_next m a.input.now l.word-index c.loop-word-test.true l.mask) in
    (ap (λ (x : Emission). x.high) (sym next) ∙ l.invariant.0, left_next l.invariant.1 (ap (λ (x : Emission). x.words) next) c.put_emission-p.ensures)

pub returns : goal.returns
returns c =
    let l = c.loop-word in
    let a = c.args in
    let end = stream_end a.nine.now a.input.now l.word-index c.loop-word-test.false l.mask in
    record { high_value = ap (λ (x : Emission). x.high) (sym end) ∙ l.invariant.0; wrote = left_done l.invariant.1 (ap (λ (x : Emission). x.words) end) }
