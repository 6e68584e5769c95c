use mathlib.Core.Path.{refl, sym, ap, ◌∙◌}
use native.Mathlib.Nat.{zero-add}
use native.Mathlib.Omega.{arith}
use lib.ListN.{get_or, drop_of_length-le}
use Rattle.machine.specs.Answers.{accepted}
use Rattle.expander_rules.specs.Stream.{Emission, emission_of}
use Rattle.expander_rules.specs.Call.{fault_of}
use Rattle.expander_rules.proofs.Words.{words_next}
use Rattle.expander_rules.proofs.StreamLaws.{stream_next, stream_end}
use Rattle.expander_rules.proofs.Faults.{fault_many, fault_bad, fault_next}
use Rattle.expander_replay.proofs.Surveys.{onward_start, onward_next, onward_done}
use Rattle.expander.proofs.survey.survey_stream.Goals as goal

pub loop-word-init : goal.loop-word-init
loop-word-init c = (refl, onward_start _ (record { small = omega arith; most = c.requires }))

pub survey_emission-requires : goal.survey_emission-requires
survey_emission-requires c = (sym c.refuse.ensures ∙ c.if-refuse.false, c.loop-word.invariant.1.going)

pub returns-then-refuse : goal.returns-then-refuse
returns-then-refuse c =
    let l = c.loop-word in
    let here = rw (words_next c.args.input.now l.word-index c.loop-word-test.true) at l.invariant.0 in
    rw (sym here ∙ fault_many _ _ _ _ _ (sym c.refuse.ensures ∙ c.if-refuse.true))

pub returns-in_default : goal.returns-in_default
returns-in_default c =
    let l = c.loop-word in
    let here = rw (words_next c.args.input.now l.word-index c.loop-word-test.true) at l.invariant.0 in
    rw (sym here ∙ fault_bad _ _ _ _ _ (sym c.refuse.ensures ∙ c.if-refuse.false) c.in_default.ensures)

pub loop-word-preserved : goal.loop-word-preserved
loop-word-preserved c =
    let l = c.loop-word in
    let m = c.args.nine.now.words in
    let w = c.args.input.now in
    let i = l.word-index in
    let q = c.in-Some.ensures in
    let here = rw (words_next w i c.loop-word-test.true) at l.invariant.0 in
    let next = rw (← c.mask_after-mask.ensures m) at (stream_next m w i c.loop-word-test.true l.mask) in
    let rest = sym (fault_next _ _ _ _ _ (sym c.refuse.ensures ∙ c.if-refuse.false) q.fine) ∙ here in
    (rw (c.mask_after-mask.ensures m, q.onward) rest, onward_next l.invariant.1 (emission_of m l.mask (get_or w i 0)).words _ (ap (λ (x : Emission). x.words) next) q)

pub returns : goal.returns
unfolding fault_of
returns c =
    let l = c.loop-word in
    let a = c.args in
    let end = ap (λ (x : Emission). x.words) (stream_end a.nine.now.words a.input.now l.word-index c.loop-word-test.false l.mask) in
    let sound = rw (drop_of_length-le a.input.now c.loop-word-test.false) at l.invariant.0 in
    rw (← sound) (rw zero-add at (ap accepted (onward_done l.invariant.1 end).counted))
