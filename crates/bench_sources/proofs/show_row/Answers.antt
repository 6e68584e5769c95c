use Prim.Native.Nat.{ℕ, ◌+◌, ◌-◌}
use mathlib.Core.Bool.{true, false}
use mathlib.Core.Path.{◌≡◌}
use native.Mathlib.Omega.{arith}
use lib.ListN.{length}
use borrow.Author.Tests.{eq-eqb, ne_eqb}
use Rattle.bench_sources.specs.Sources.{can_show, shown_row}
use Rattle.machine.proofs.Checks.{held, failed}
use Rattle.bench_sources.proofs.Facts.{show_facts}
use Rattle.bench_sources.proofs.show_row.Goals as goal

pub returns-then-not-can_show : goal.returns-then-not-can_show
unfolding shown_row
returns-then-not-can_show c =
    let a = c.args in
    let e : can_show (length a.src_a.now) (length a.src_b.now) a.file a.bank a.row ≡ false = failed c.can_show.ensures c.if-not-can_show.true in
    record { cells = rw e; part = λ h. let z : ◌≡◌ {A = ℕ} 0 1 = cc in absurd (omega arith) }

pub row_place-at-requires : goal.row_place-at-requires
row_place-at-requires c =
    let a = c.args in
    let f = show_facts (length a.src_a.now) (length a.src_b.now) a.file a.bank a.row (held c.can_show.ensures c.if-not-can_show.false) in
    (omega (arith, f.bank_in), omega (arith, f.row_in))

pub slice_bounds-result-end-then-file-eq0 : goal.slice_bounds-result-end-then-file-eq0
slice_bounds-result-end-then-file-eq0 c =
    let a = c.args in
    omega (arith, c.row_place-at.ensures, show_facts (length a.src_a.now) (length a.src_b.now) a.file a.bank a.row (held c.can_show.ensures c.if-not-can_show.false))

pub returns-then-file-eq0 : goal.returns-then-file-eq0
unfolding shown_row
returns-then-file-eq0 c =
    let a = c.args in
    let p = c.row_place-at.result in
    let n : p + 16 - p ≡ 16 = omega arith in
    let e : can_show (length a.src_a.now) (length a.src_b.now) a.file a.bank a.row ≡ true = held c.can_show.ensures c.if-not-can_show.false in
    let t = eq-eqb a.file 0 c.if-file-eq0.true in
    record { cells = rw (e, n, c.row_place-at.ensures, t); part = λ h. rw (c.row_place-at.ensures, t) }

pub slice_bounds-result-end-2 : goal.slice_bounds-result-end-2
slice_bounds-result-end-2 c =
    let a = c.args in
    omega (arith, c.row_place-at.ensures, show_facts (length a.src_a.now) (length a.src_b.now) a.file a.bank a.row (held c.can_show.ensures c.if-not-can_show.false))

pub returns : goal.returns
unfolding shown_row
returns c =
    let a = c.args in
    let p = c.row_place-at.result in
    let n : p + 16 - p ≡ 16 = omega arith in
    let e : can_show (length a.src_a.now) (length a.src_b.now) a.file a.bank a.row ≡ true = held c.can_show.ensures c.if-not-can_show.false in
    let t = ne_eqb a.file 0 c.if-file-eq0.false in
    record { cells = rw (e, n, c.row_place-at.ensures, t); part = λ h. rw (c.row_place-at.ensures, t) }
