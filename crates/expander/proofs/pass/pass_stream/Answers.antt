use mathlib.Core.Path.{refl, sym, ap, ◌∙◌}
use native.Mathlib.Omega.{arith}
use lib.ListN.{get_or}
use Rattle.expander_rules.specs.Stream.{Emission, emission_of}
use Rattle.expander_rules.specs.Replay.{Buffer, buffer}
use Rattle.expander_rules.proofs.Words.{words_next}
use Rattle.expander_rules.proofs.StreamLaws.{stream_next, stream_end}
use Rattle.expander_rules.proofs.ReplayLaws.{play_load}
use Rattle.expander_rules.proofs.Faults.{sound_next}
use Rattle.expander_replay.proofs.Passing.{passing_start, passing_part, passing_next, passing_done}
use Rattle.expander.proofs.pass.pass_stream.Goals as goal

pub loop-word-init : goal.loop-word-init
loop-word-init c = (c.requires.0, refl, passing_start (record { room = omega (arith, c.requires.1) }))

pub pass_emission-p-requires : goal.pass_emission-p-requires
pass_emission-p-requires c =
    let l = c.loop-word in
    let m = c.args.nine.now.words in
    let w = c.args.input.now in
    let i = l.word-index in
    let word = get_or w i 0 in
    let sound = sound_next m l.mask l.p.load word _ (rw (words_next w i c.loop-word-test.true) at l.invariant.0) in
    (sound.0, passing_part l.invariant.2 (emission_of m l.mask word).words _ (ap (λ (x : Emission). x.words) (stream_next m w i c.loop-word-test.true l.mask)))

pub loop-word-preserved : goal.loop-word-preserved
loop-word-preserved c =
    let l = c.loop-word in
    let m = c.args.nine.now.words in
    let w = c.args.input.now in
    let i = l.word-index in
    let word = get_or w i 0 in
    let q = c.pass_emission-p.ensures in
    let sound = sound_next m l.mask l.p.load word _ (rw (words_next w i c.loop-word-test.true) at l.invariant.0) in
    let load = ap (λ (b : Buffer). b.load) q.after ∙ play_load (buffer l.slots l.p.load) (emission_of m l.mask word).words in
    let next = rw (← c.mask_after-mask.ensures m) at (stream_next m w i c.loop-word-test.true l.mask) in
    let high = ap (λ (x : Emission). x.high) (sym next) ∙ l.invariant.1 in
    let on = passing_next l.invariant.2 (emission_of m l.mask word).words _ (ap (λ (x : Emission). x.words) next) q in
    (rw (c.mask_after-mask.ensures m, load) sound.1.1, high, on)

pub returns : goal.returns
returns c =
    let l = c.loop-word in
    let a = c.args in
    let end = stream_end a.nine.now.words a.input.now l.word-index c.loop-word-test.false l.mask in
    let q = passing_done l.invariant.2 (ap (λ (x : Emission). x.words) end) in
    record { mask = ap (λ (x : Emission). x.high) (sym end) ∙ l.invariant.1; taken = q.after; wrote = q.wrote.list }
