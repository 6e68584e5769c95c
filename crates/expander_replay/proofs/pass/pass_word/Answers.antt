use mathlib.Core.List.{[], ◌∷◌}
use mathlib.Core.Path.{refl, sym, ◌∙◌}
use Rattle.expander_rules.specs.Stream.{is_replay}
use Rattle.expander_rules.proofs.Words.{none_one}
use Rattle.expander_replay.proofs.Passing.{one_fits, passes_one, plain_fits, passes_plain}
use Rattle.expander_replay.proofs.pass.pass_word.Goals as goal

pub put_written-at-requires : goal.put_written-at-requires
put_written-at-requires c = one_fits c.args.slots.now c.args.p c.args.word c.requires

pub returns-then-is_replay : goal.returns-then-is_replay
returns-then-is_replay c =
    let a = c.args in
    passes_one a.slots.now a.p a.word _ c.put_written-at.ensures c.take_word.ensures c.load_after-after.ensures

pub put_one-at-requires : goal.put_one-at-requires
put_one-at-requires c =
    let a = c.args in
    plain_fits a.slots.now a.p (a.word ∷ []) (sym c.is_loading.ensures ∙ c.if-is_loading.false) (none_one is_replay a.word (sym c.is_replay.ensures ∙ c.if-is_replay.false)) c.requires

pub returns : goal.returns
returns c =
    let a = c.args in
    passes_plain a.slots.now a.p (a.word ∷ []) (sym c.is_loading.ensures ∙ c.if-is_loading.false) (none_one is_replay a.word (sym c.is_replay.ensures ∙ c.if-is_replay.false)) _ c.put_one-at.ensures refl
