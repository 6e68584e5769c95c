use Rattle.word_scalar.proofs.Operating.{arithmetic_held_up, arithmetic_done}
use Rattle.word_scalar.proofs.arithmetic.Goals as goal

pub returns-in-Some : goal.returns-in-Some
returns-in-Some c = arithmetic_held_up _ _ _ _ c.args.multiply _ c.in-Some.ensures

pub returns : goal.returns
returns c =
    rw (c.combined.ensures, c.gpr_place-2.ensures, c.result.ensures, c.operand_of-y.ensures, c.operand_b.ensures, c.gpr_place.ensures, c.operand_a.ensures)
    (arithmetic_done _ _ _ _ c.args.multiply c.in_default.ensures)
