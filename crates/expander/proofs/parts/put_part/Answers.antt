use mathlib.Core.Path.{ap}
use native.Mathlib.Omega.{arith}
use lib.ListN.{length}
use Rattle.expander.proofs.MopParts.{alone, wrote_taken}
use Rattle.expander.proofs.parts.put_part.Goals as goal

pub put_stream-requires : goal.put_stream-requires
put_stream-requires c =
    let a = c.args in
    let part = alone a.nine.now a.high a.word a.o c.requires.1 c.requires.0 in
    rw c.part_words-words.ensures (omega (arith, ap length part.given, part.small))

pub returns : goal.returns
returns c =
    let a = c.args in
    let part = alone a.nine.now a.high a.word a.o c.requires.1 c.requires.0 in
    let wrote = rw (c.part_words-words.ensures, part.given) at c.put_stream.ensures.wrote in
    (wrote_taken wrote, omega (arith, wrote.placed, part.small))
