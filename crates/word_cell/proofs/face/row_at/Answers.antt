use Rattle.std.proofs.Common.{◌+◌, get_or, rules}
use Rattle.word_cell.proofs.Made.{from_fn_values}
use Rattle.word_cell.proofs.face.row_at.Goals as goal

pub returns : goal.returns
returns c = from_fn_values _ _ (λ k. get_or c.args.s.now (c.args.at + k) 0) (λ i y q k. search rules) _ 0 16 c.from_fn.ensures.items
