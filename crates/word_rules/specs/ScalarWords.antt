-- The words of the scalar unit, block bit B5: what each says, and what it does to the stores. "G" is the thread's own GPRs. Bits not
-- named are ignored.
use Rattle.std.specs.Prelude.{ℕ, ◌+◌, ◌*◌, ◌%◌, ◌^◌, cond, not, List, set, get_or}
use Rattle.bits.specs.Field.{field, flag, with_low, with_high}
use Rattle.machine.specs.declared.units.GprNumber.{GprNumber}
use Rattle.machine.specs.declared.units.HalfRegister.{HalfRegister}
use Rattle.machine.specs.Units.{gpr, half_register, gpr_of_half, is_high_half, gpr_place}
use Rattle.machine.specs.Machine.{Stores, with_gprs}
use Rattle.machine.specs.Answers.{Told, accepted, provided}
use Rattle.word_rules.specs.declared.instruction.Operand.{Operand}
use Rattle.word_rules.specs.declared.instruction.Operand.TheVariants.{Constant, Register}
use Rattle.word_rules.specs.declared.instruction.ScalarWord.{ScalarWord}
use Rattle.word_rules.specs.declared.instruction.ScalarWord.TheVariants.{SetDmaReg, AddDmaReg, MulDmaReg, DmaNop}
use Rattle.word_rules.specs.declared.instruction.Instruction.{Instruction}
use Rattle.word_rules.specs.declared.instruction.Instruction.TheVariants.{Scalar}

-- ---- what a word says

-- SETDMAREG: value 8–23, signal mode 7, half 0–6; signal mode is 2
abbrev pub set_dma_reg_of : ℕ → Told Instruction
set_dma_reg_of w =
    provided (not (flag 7 w)) 2
    (accepted (Scalar (SetDmaReg (half_register (field 0 7 w)) (field 8 16 w))))

-- result 12–17
abbrev pub result_of : ℕ → GprNumber
result_of w = gpr (field 12 6 w)

-- A 0–5
abbrev pub operand_a_of : ℕ → GprNumber
operand_a_of w = gpr (field 0 6 w)

-- constant 23, B 6–11
abbrev pub operand_b_of : ℕ → Operand
operand_b_of w = cond (flag 23 w) (Constant (field 6 6 w)) (Register (gpr (field 6 6 w)))

-- ADDDMAREG: constant 23, result 12–17, B 6–11, A 0–5
abbrev pub add_dma_reg_of : ℕ → Told Instruction
add_dma_reg_of w = accepted (Scalar (AddDmaReg (result_of w) (operand_a_of w) (operand_b_of w)))

-- MULDMAREG: same fields
abbrev pub mul_dma_reg_of : ℕ → Told Instruction
mul_dma_reg_of w = accepted (Scalar (MulDmaReg (result_of w) (operand_a_of w) (operand_b_of w)))

-- DMANOP: none
abbrev pub dma_nop_of : ℕ → Told Instruction
dma_nop_of w = accepted (Scalar DmaNop)

-- ---- what it does

-- a GPR of thread t
abbrev pub gpr_of : ℕ → GprNumber → List ℕ → ℕ
gpr_of t g gprs = get_or gprs (gpr_place t g) 0

-- B or G[B]
abbrev pub operand_of : ℕ → Operand → List ℕ → ℕ
operand_of t (Constant n) gprs = n
operand_of t (Register g) gprs = gpr_of t g gprs

-- a word with one half replaced: the low one of an even half register, the high one of an odd
abbrev pub with_half : HalfRegister → ℕ → ℕ → ℕ
with_half half value x = cond (is_high_half half) (with_high value x) (with_low value x)

-- SETDMAREG: sets half register (even low, odd high)
abbrev pub after_set_dma_reg : ℕ → HalfRegister → ℕ → List ℕ → List ℕ
after_set_dma_reg t half value gprs = set gprs (gpr_place t (gpr_of_half half)) (with_half half value (gpr_of t (gpr_of_half half) gprs))

-- ADDDMAREG: G[A] + (B or G[B]), wraps at 32 bits
abbrev pub after_add_dma_reg : ℕ → GprNumber → GprNumber → Operand → List ℕ → List ℕ
after_add_dma_reg t result a b gprs = set gprs (gpr_place t result) ((gpr_of t a gprs + operand_of t b gprs) % 2 ^ 32)

-- MULDMAREG: low 16 bits of each multiplied, full 32-bit result
abbrev pub after_mul_dma_reg : ℕ → GprNumber → GprNumber → Operand → List ℕ → List ℕ
after_mul_dma_reg t result a b gprs = set gprs (gpr_place t result) (field 0 16 (gpr_of t a gprs) * field 0 16 (operand_of t b gprs))

-- the stores after a word of thread t
unfoldable pub scalar_after : ScalarWord → ℕ → Stores → Stores
scalar_after (SetDmaReg half value) t k = with_gprs k (after_set_dma_reg t half value k.gprs)
scalar_after (AddDmaReg result a b) t k = with_gprs k (after_add_dma_reg t result a b k.gprs)
scalar_after (MulDmaReg result a b) t k = with_gprs k (after_mul_dma_reg t result a b k.gprs)
scalar_after DmaNop t k = k
