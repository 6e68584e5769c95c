use borrow.Author.Tests.{ne_eqb}
use Rattle.word_rules.specs.Offered.{control_offer}
use Rattle.word_control.proofs.Changing.{changing_offered}
use Rattle.word_control.proofs.control_word.Goals as goal

pub returns-in_default : goal.returns-in_default
returns-in_default c =
    let m = c.in_default.in_default-own.rest in
    changing_offered c.args.op c.args.word (control_offer c.args.blocks c.args.drops c.args.c c.args.t) _ (ne_eqb _ _ m.0.0.0.0.0.1, ne_eqb _ _ m.0.0.0.0.1) (ne_eqb _ _ m.0.0.0.1, ne_eqb _ _ m.0.0.1) (ne_eqb _ _ m.0.1, ne_eqb _ _ m.1) c.requires.1
    (rw c.change_of.ensures at c.change_word.ensures)
