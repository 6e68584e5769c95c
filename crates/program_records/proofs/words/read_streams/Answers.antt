use Rattle.program_records.proofs.Streams.{all_read}
use Rattle.program_records.proofs.words.read_streams.Goals as goal

pub returns : goal.returns
returns c =
    let a = c.args in
    all_read a.s.now a.c c.read_first.ensures c.read_first-2.ensures c.read_first-3.ensures
