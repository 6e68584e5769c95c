use Rattle.bench_sources.specs.Sources.{sources}
use Rattle.machine.proofs.Checks.{held}
use Rattle.bench_sources.proofs.Facts.{owner_asked}
use Rattle.bench_sources.proofs.source_access.Goals as goal

pub unpackers_own-requires : goal.unpackers_own-requires
unpackers_own-requires c =
    let a = c.args in
    owner_asked a.control (sources a.src_a.now a.src_b.now) a.file a.row a.cells.now (held c.sources_formed.ensures c.if-not-sources_formed.false) (held c.row_in_range.ensures c.if-not-row_in_range.false)
