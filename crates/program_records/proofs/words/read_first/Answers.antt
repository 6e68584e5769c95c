use mathlib.Core.Path.{sym}
use lib.Seq.{length-take-le}
use Rattle.program_records.proofs.Streams.{first_read}
use Rattle.program_records.proofs.words.read_first.Goals as goal

pub slice_bounds-read_run-end-2 : goal.slice_bounds-read_run-end-2
slice_bounds-read_run-end-2 c = sym (length-take-le c.args.n c.args.dst.now c.requires.1)

pub returns : goal.returns
returns c =
    first_read c.args.s.now _ _ c.args.at _ c.args.n c.read_run.ensures (length-take-le c.args.n c.args.dst.now c.requires.1)
