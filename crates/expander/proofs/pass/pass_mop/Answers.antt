use mathlib.Core.Path.{refl, sym, ◌∙◌}
use borrow.Author.Tests.{not-true}
use Rattle.expander_rules.specs.Stream.{mop_words}
use Rattle.expander_rules.proofs.Plain.{mop_plain}
use Rattle.expander_replay.proofs.Passing.{plain_fits, passes_plain}
use Rattle.expander.proofs.MopParts.{mop_alone}
use Rattle.expander.proofs.pass.pass_mop.Goals as goal

pub put_stream-put-requires : goal.put_stream-put-requires
put_stream-put-requires c =
    let a = c.args in
    let m = a.nine.now.words in
    let none = not-true _ (sym a.nine.now.none_replays ∙ c.if-nine.true) in
    rw (mop_alone m a.high a.word c.requires.1)
    (plain_fits a.slots.now a.p (mop_words m a.high a.word) (sym c.is_loading.ensures ∙ c.if-not-is_loading.true) (mop_plain m none a.high a.word) c.requires.2)

pub returns-then-not-is_loading : goal.returns-then-not-is_loading
returns-then-not-is_loading c =
    let a = c.args in
    let m = a.nine.now.words in
    let none = not-true _ (sym a.nine.now.none_replays ∙ c.if-nine.true) in
    let wrote = rw (mop_alone m a.high a.word c.requires.1) at c.put_stream-put.ensures.wrote in
    passes_plain a.slots.now a.p (mop_words m a.high a.word) (sym c.is_loading.ensures ∙ c.if-not-is_loading.true) (mop_plain m none a.high a.word) _ wrote refl
