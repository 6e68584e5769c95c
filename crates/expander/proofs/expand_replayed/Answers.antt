use mathlib.Core.Path.{◌≡◌, sym}
use native.Mathlib.Omega.{arith}
use lib.ListN.{length}
use Rattle.std.proofs.lemmas.Result.{err_from_is_err_and}
use Rattle.expander_rules.specs.Call.{expansion_of}
use Rattle.expander_rules.proofs.Calls.{told_fault, told_sound, needed_long, faulty, little_room, enough_room_lem}
use Rattle.expander.proofs.expand_replayed.Goals as goal

pub returns-in_err-count : goal.returns-in_err-count
returns-in_err-count c =
    let p = err_from_is_err_and c.from_residual.result c.from_residual.ensures.1 in
    rw (p.1, p.2) (sym (faulty c.args.nine.now.words (omega arith) c.requires.0 c.args.out.now (told_fault _ _ c.in_err-count.ensures)))

pub returns-then-limit-count : goal.returns-then-limit-count
returns-then-limit-count c =
    let a = c.args in
    let m = a.nine.now.words in
    let told = told_sound _ c.in_ok-count.ensures in
    sym (little_room m (omega arith) c.requires.0 a.out.now told.0 (omega (arith, c.if-limit-count.true, c.requires.1, told.1, needed_long m a.carried a.input.now)))

pub write_replayed-carried-requires : goal.write_replayed-carried-requires
write_replayed-carried-requires c =
    let a = c.args in
    let told = told_sound _ c.in_ok-count.ensures in
    (sym told.0, omega (arith, c.if-limit-count.false, c.requires.1, told.1, needed_long a.nine.now.words a.carried a.input.now))

pub returns : goal.returns
returns c =
    let a = c.args in
    let m = a.nine.now.words in
    let told = told_sound _ c.in_ok-count.ensures in
    let long = needed_long m a.carried a.input.now in
    let all = enough_room_lem m (omega arith) c.requires.0 a.out.now told.0 (omega (arith, c.if-limit-count.false, c.requires.1, told.1, long)) in
    let w = c.write_replayed-carried.ensures in
    let count : c.in_ok-count.count ≡ length (expansion_of m a.carried a.input.now).words = omega (arith, c.if-limit-count.false, c.requires.1, told.1, long) in
    rw (w.onward, w.wrote, count) (sym all)
