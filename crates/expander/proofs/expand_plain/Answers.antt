use mathlib.Core.Path.{◌≡◌, sym, ◌∙◌}
use native.Mathlib.Omega.{arith}
use lib.ListN.{length}
use borrow.Author.Tests.{not-true}
use Rattle.expander_rules.specs.Stream.{stream_of}
use Rattle.expander_rules.proofs.StreamLaws.{stream_long}
use Rattle.expander_rules.proofs.Plain.{stream_plain}
use Rattle.expander_rules.proofs.Calls.{mop_rounds, mop_little, mop_enough}
use Rattle.expander_rules.proofs.Whole.{plain_streams}
use Rattle.expander.proofs.expand_plain.Goals as goal

pub returns-then-bad_rounds : goal.returns-then-bad_rounds
returns-then-bad_rounds c =
    let a = c.args in
    let m = a.nine.now.words in
    let none = stream_plain m (not-true _ (sym a.nine.now.none_replays ∙ c.requires.2)) a.carried.high_mask a.input.now c.requires.3 in
    rw (plain_streams m a.carried a.input.now a.out.now c.requires.4 none)
    (sym (mop_rounds m (omega arith) c.requires.0 a.out.now (sym c.bad_rounds.ensures ∙ c.if-bad_rounds.true)))

pub returns-then-limit-count : goal.returns-then-limit-count
returns-then-limit-count c =
    let a = c.args in
    let m = a.nine.now.words in
    let none = stream_plain m (not-true _ (sym a.nine.now.none_replays ∙ c.requires.2)) a.carried.high_mask a.input.now c.requires.3 in
    let few = sym c.bad_rounds.ensures ∙ c.if-bad_rounds.false in
    rw (plain_streams m a.carried a.input.now a.out.now c.requires.4 none)
    (sym (mop_little m (omega arith) c.requires.0 a.out.now few (omega (arith, c.requires.1, c.if-limit-count.true, c.count_stream-count.ensures))))

pub put_stream-put-requires : goal.put_stream-put-requires
put_stream-put-requires c =
    let a = c.args in
    omega (arith, c.requires.1, c.if-limit-count.false, c.count_stream-count.ensures, stream_long a.nine.now.words a.carried.high_mask a.input.now)

pub returns : goal.returns
returns c =
    let a = c.args in
    let m = a.nine.now.words in
    let none = stream_plain m (not-true _ (sym a.nine.now.none_replays ∙ c.requires.2)) a.carried.high_mask a.input.now c.requires.3 in
    let few = sym c.bad_rounds.ensures ∙ c.if-bad_rounds.false in
    let long = stream_long m a.carried.high_mask a.input.now in
    let fits = c.if-limit-count.false in
    let count : c.count_stream-count.result ≡ length (stream_of m a.carried.high_mask a.input.now).words = omega (arith, c.requires.1, fits, c.count_stream-count.ensures, long) in
    let p = c.put_stream-put.ensures in
    rw (plain_streams m a.carried a.input.now a.out.now c.requires.4 none, count, p.high_value, p.wrote.list)
    (sym (mop_enough m (omega arith) c.requires.0 a.out.now few (omega (arith, c.requires.1, fits, c.count_stream-count.ensures))))
