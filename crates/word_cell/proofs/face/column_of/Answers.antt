use Rattle.std.proofs.Common.{rules}
use Rattle.word_rules.specs.Face.{cell_of}
use Rattle.word_cell.proofs.Made.{from_fn_values}
use Rattle.word_cell.proofs.face.column_of.Goals as goal

pub returns : goal.returns
returns c = from_fn_values _ _ (λ k. cell_of c.args.face.now k c.args.c) (λ i y q k. search rules) _ 0 16 c.from_fn.ensures.items
