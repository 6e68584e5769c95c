use Rattle.word_scalar.proofs.Operating.{nop_offered}
use Rattle.word_scalar.proofs.dma_nop.Goals as goal

pub returns : goal.returns
returns c = rw c.unwrap_or.ensures (nop_offered _ _ c.args.word _ _ c.held_up.ensures)
