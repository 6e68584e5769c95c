use Rattle.std.proofs.Common.{◌≡◌, true, arith, ap, ◌∙◌, List, ℕ, Ok}
use Rattle.machine.specs.Lent.{viewed}
use Rattle.machine.specs.Machine.{Machine}
use Rattle.machine.specs.Formed.{sized, formed}
use Rattle.machine.proofs.StoreFacts.{sized_facts}
use Rattle.machine.proofs.Checks.{held}
use Rattle.image.specs.Calls.{save_call}
use Rattle.image.proofs.Answers.{save_written}
use Rattle.image.proofs.save.Goals as goal

pub write_machine-requires : goal.write_machine-requires
write_machine-requires c =
    let lent : Machine = viewed c.args.m in
    let sized-yes : sized lent ≡ true = held c.machine_sized.ensures c.if-not-machine_sized.false in
    let f = sized_facts lent sized-yes in
    (omega arith, f.settings, f.gprs, f.config, f.cells, f.marks, f.src_a, f.src_b)

pub returns : goal.returns
returns c =
    let lent : Machine = viewed c.args.m in
    let out : List ℕ = c.args.out.now in
    let sized-yes : sized lent ≡ true = held c.machine_sized.ensures c.if-not-machine_sized.false in
    let formed-yes : formed lent ≡ true = held c.machine_formed.ensures c.if-not-machine_formed.false in
    ap (λ (o : List ℕ). save_call (Ok tt) o) c.write_machine.ensures.list
    ∙ save_written lent out sized-yes formed-yes c.if-out-lt-IMAGE_BYTES.false
