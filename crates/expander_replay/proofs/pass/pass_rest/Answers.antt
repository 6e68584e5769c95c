use mathlib.Core.Path.{refl, sym, ◌∙◌}
use Rattle.expander_replay.proofs.Passing.{plain_fits, passes_plain}
use Rattle.expander_replay.proofs.pass.pass_rest.Goals as goal

pub put_all-at-requires : goal.put_all-at-requires
put_all-at-requires c =
    let a = c.args in
    plain_fits a.slots.now a.p a.words.now (sym c.is_loading.ensures ∙ c.if-is_loading.false) (sym c.any_replay.ensures ∙ c.if-any_replay.false) c.requires

pub returns : goal.returns
returns c =
    let a = c.args in
    passes_plain a.slots.now a.p a.words.now (sym c.is_loading.ensures ∙ c.if-is_loading.false) (sym c.any_replay.ensures ∙ c.if-any_replay.false) _ c.put_all-at.ensures refl
