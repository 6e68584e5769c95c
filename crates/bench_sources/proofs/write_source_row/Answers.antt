use Prim.Native.Nat.{◌+◌}
use native.Mathlib.Omega.{arith}
use borrow.Author.Tests.{eq-eqb, ne_eqb}
use Rattle.machine.proofs.ControlFacts.{pointer_at}
use Rattle.bench_sources.specs.Sources.{sources, with_source_row, write_source_row_of}
use Rattle.machine.proofs.Checks.{checked_found}
use Rattle.bench_sources.proofs.Facts.{source_facts}
use Rattle.bench_sources.proofs.write_source_row.Goals as goal

pub bounds-control-file : goal.bounds-control-file
bounds-control-file c =
    let a = c.args in
    omega (arith, source_facts a.control (sources a.src_a.now a.src_b.now) a.file a.row a.cells.now (rw c.in_ok-source_access.was at c.source_access.ensures))

pub overflow_cast-bank-2 : goal.overflow_cast-bank-2
overflow_cast-bank-2 c =
    let a = c.args in
    omega (arith, pointer_at a.control (2 + a.file) (source_facts a.control (sources a.src_a.now a.src_b.now) a.file a.row a.cells.now (rw c.in_ok-source_access.was at c.source_access.ensures)).formed)

pub row_place-at-requires : goal.row_place-at-requires
row_place-at-requires c =
    let a = c.args in
    let f = source_facts a.control (sources a.src_a.now a.src_b.now) a.file a.row a.cells.now (rw c.in_ok-source_access.was at c.source_access.ensures) in
    (omega (arith, pointer_at a.control (2 + a.file) f.formed), omega (arith, f.row_in))

pub put_all-requires : goal.put_all-requires
put_all-requires c =
    let a = c.args in
    let f = source_facts a.control (sources a.src_a.now a.src_b.now) a.file a.row a.cells.now (rw c.in_ok-source_access.was at c.source_access.ensures) in
    omega (arith, f, c.row_place-at.ensures, pointer_at a.control (2 + a.file) f.formed)

pub returns-then-file-eq0 : goal.returns-then-file-eq0
unfolding write_source_row_of with_source_row
returns-then-file-eq0 c = rw (c.put_all.ensures.list, c.row_place-at.ensures, eq-eqb _ _ c.if-file-eq0.true) (checked_found _ _ (rw c.in_ok-source_access.was at c.source_access.ensures))

pub put_all-requires-2 : goal.put_all-requires-2
put_all-requires-2 c =
    let a = c.args in
    let f = source_facts a.control (sources a.src_a.now a.src_b.now) a.file a.row a.cells.now (rw c.in_ok-source_access.was at c.source_access.ensures) in
    omega (arith, f, c.row_place-at.ensures, pointer_at a.control (2 + a.file) f.formed)

pub returns : goal.returns
unfolding write_source_row_of with_source_row
returns c = rw (c.put_all-2.ensures.list, c.row_place-at.ensures, ne_eqb _ _ c.if-file-eq0.false) (checked_found _ _ (rw c.in_ok-source_access.was at c.source_access.ensures))
