use Prim.Native.Nat.{◌+◌, ◌≤◌}
use native.Mathlib.Omega.{arith}
use lib.ListN.{length, length-drop}
use Rattle.expander_rules.specs.Call.{answered}
use Rattle.expander_rules.proofs.Whole.{answer_fits}
use Rattle.std.proofs.Common.{rules}
use Rattle.test_expander.proofs.pieces.feed.Goals as goal

pub overflow_add-result : goal.overflow_add-result
overflow_add-result c =
    let fits : (c.args.fed.at + answered c.expand-r.result.answer ≤ length c.args.out.now) = omega (arith, answer_fits _ _ _ _ c.expand-r.result.answer _ _ c.expand-r.ensures, length-drop c.args.fed.at c.args.out.now, c.requires) in
    omega (arith, rw c.in-Ok.is at fits)

pub returns-in-Ok : goal.returns-in-Ok
returns-in-Ok c =
    let fits : (c.args.fed.at + answered c.expand-r.result.answer ≤ length c.args.out.now) = omega (arith, answer_fits _ _ _ _ c.expand-r.result.answer _ _ c.expand-r.ensures, length-drop c.args.fed.at c.args.out.now, c.requires) in
    (omega (arith, rw c.in-Ok.is at fits), search rules)
