use Rattle.step_rules.proofs.Offering.{offer_on_control, offer_on_stores}
use Rattle.step_offer.specs.StoreWords.{stores_in}
use Rattle.step_offer.proofs.offer.Goals as goal

pub returns-then-on_control-clause-answer : goal.returns-then-on_control-clause-answer
returns-then-on_control-clause-answer c cells =
    let j = c.judge-j.ensures in
    offer_on_control _ _ _ _ _ _ _ j.0 j.1 j.2 _ _ c.field-op.ensures.value c.on_control.result c.on_control.ensures c.if-on_control.true c.control_word-x.result c.control_word-x.ensures _ c.with_cause.ensures

pub returns-clause-answer : goal.returns-clause-answer
returns-clause-answer c cells =
    let j = c.judge-j.ensures in
    let owned = c.matrix_owns in
    let a = c.args in
    offer_on_stores a.control a.stores.now.settings.now (stores_in a.stores.now cells) _ _ _ _ j.0 j.1 j.2 _ _ c.field-op.ensures.value
    c.on_control.result c.on_control.ensures c.if-on_control.false owned.result owned.ensures _ _ _ (c.store_word.ensures.answer cells) c.finished.result (rw c.with_cause-2.ensures at c.finished.ensures)
