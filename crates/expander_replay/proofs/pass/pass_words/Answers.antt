use Prim.Native.Nat.{◌-◌}
use native.Mathlib.Omega.{arith}
use lib.ListN.{length, take, drop, length-take}
use Rattle.expander_rules.proofs.Words.{cut_at}
use Rattle.expander_replay.proofs.Passing.{Passing, passing_start, passing_part, passing_next, passing_rest, passing_last}
use Rattle.expander_replay.proofs.pass.pass_words.Goals as goal

pub slice_bounds-pass_each-end : goal.slice_bounds-pass_each-end
slice_bounds-pass_each-end c = simp length-take (omega (arith, c.min-taken.ensures))

pub pass_each-q-requires : goal.pass_each-q-requires
pass_each-q-requires c =
    passing_part (passing_start c.requires) _ _ (cut_at c.args.words.now c.min-taken.result)

pub pass_rest-requires : goal.pass_rest-requires
pass_rest-requires c =
    let first : (let a = c.args in
    let w = a.words.now in
    Passing a.slots.now a.p w a.out.now c.pass_each-q.new.slots c.pass_each-q.new.out c.pass_each-q.result
    (take (length w - c.min-taken.result) (drop c.min-taken.result w))) = passing_next (passing_start c.requires) _ _ (cut_at c.args.words.now c.min-taken.result) c.pass_each-q.ensures in
    passing_rest first

pub returns : goal.returns
returns c =
    let first : (let a = c.args in
    let w = a.words.now in
    Passing a.slots.now a.p w a.out.now c.pass_each-q.new.slots c.pass_each-q.new.out c.pass_each-q.result
    (take (length w - c.min-taken.result) (drop c.min-taken.result w))) = passing_next (passing_start c.requires) _ _ (cut_at c.args.words.now c.min-taken.result) c.pass_each-q.ensures in
    passing_last first c.pass_rest.ensures
