-- ADDDMAREG and MULDMAREG as one word, for the contract of the function that does both: they have the same fields.
use Rattle.std.specs.Prelude.{ℕ, ◌+◌, ◌*◌, ◌%◌, ◌^◌, Bool, cond}
use Rattle.bits.specs.Field.{field}
use Rattle.machine.specs.Answers.{Told}
use Rattle.word_rules.specs.declared.instruction.Instruction.{Instruction}
use Rattle.word_rules.specs.ScalarWords.{add_dma_reg_of, mul_dma_reg_of}

abbrev pub arithmetic_of : Bool → ℕ → Told Instruction
arithmetic_of multiply w = cond multiply (mul_dma_reg_of w) (add_dma_reg_of w)

abbrev pub combined_of : Bool → ℕ → ℕ → ℕ
combined_of multiply x y = cond multiply (field 0 16 x * field 0 16 y) ((x + y) % 2 ^ 32)
