-- Words decoded by computation: document 01's cases, and what is easy to get wrong.
use mathlib.Core.Path.{◌≡◌, refl}
use mathlib.Core.Bool.{true, false}
use mathlib.Core.List.{[]}
use Rattle.machine.specs.Units.{gpr, half_register}
use Rattle.machine.specs.Answers.{accepted, refused}
use Rattle.word_rules.specs.declared.instruction.Operand.TheVariants.{Constant, Register}
use Rattle.word_rules.specs.declared.instruction.ScalarWord.TheVariants.{SetDmaReg, AddDmaReg, MulDmaReg}
use Rattle.word_rules.specs.declared.instruction.ConfigWord.TheVariants.{WrCfg, RdCfg, RmwCib}
use Rattle.word_rules.specs.declared.instruction.CellWord.TheVariants.{ZeroAcc}
use Rattle.word_rules.specs.declared.instruction.Instruction.TheVariants.{Scalar, Config, Cell}
use Rattle.word_rules.specs.Table.{said, decode_of}

-- M1
pub low_half_of_four : decode_of 0x45123408 ≡ accepted (Scalar (SetDmaReg (half_register 8) 0x1234))
unfolding decode_of said
low_half_of_four = refl

-- the value has 16 bits, not 14
top_bits_kept : decode_of 0x45C00008 ≡ accepted (Scalar (SetDmaReg (half_register 8) 0xC000))
unfolding decode_of said
top_bits_kept = refl

signal_mode : decode_of 0x45123488 ≡ refused 2 []
unfolding decode_of said
signal_mode = refl

-- M2
pub add_constant : decode_of 0x58805044 ≡ accepted (Scalar (AddDmaReg (gpr 5) (gpr 4) (Constant 1)))
unfolding decode_of said
add_constant = refl

-- M3
pub multiply_registers : decode_of 0x5A006144 ≡ accepted (Scalar (MulDmaReg (gpr 6) (gpr 4) (Register (gpr 5))))
unfolding decode_of said
multiply_registers = refl

-- M4
pub second_byte : decode_of 0xB4F0AB0A ≡ accepted (Config (RmwCib 1 0xF0 0xAB 0x0A))
unfolding decode_of said
second_byte = refl

-- M5
pub last_index : decode_of 0xB00000FF ≡ accepted (Config (WrCfg (gpr 0) false 255))
unfolding decode_of said
last_index = refl

pub past_last_index : decode_of 0xB0000100 ≡ refused 3 []
unfolding decode_of said
past_last_index = refl

-- M6
pub four_words : decode_of 0xB0078009 ≡ accepted (Config (WrCfg (gpr 7) true 9))
unfolding decode_of said
four_words = refl

-- RDCFG's GPR field has 8 bits
last_gpr : decode_of 0xB13F0000 ≡ accepted (Config (RdCfg (gpr 63) 0))
unfolding decode_of said
last_gpr = refl

past_last_gpr : decode_of 0xB1400000 ≡ refused 3 []
unfolding decode_of said
past_last_gpr = refl

-- a mutex field has 16 bits
past_last_mutex : decode_of 0xA0008000 ≡ refused 3 []
unfolding decode_of said
past_last_mutex = refl

-- each view has its own limit: row 512 is there in the 16-bit view alone
row_of_wide_view : decode_of 0x10040200 ≡ refused 3 []
unfolding decode_of said
row_of_wide_view = refl

row_of_narrow_view : decode_of 0x10000200 ≡ accepted (Cell (ZeroAcc 0 false 512))
unfolding decode_of said
row_of_narrow_view = refl

-- mode 3 ignores the place
all_rows : decode_of 0x10183FFF ≡ accepted (Cell (ZeroAcc 3 false 0x3FFF))
unfolding decode_of said
all_rows = refl

-- 2 goes before 3: AddrMod 1 and a place past its view
word_before_field : decode_of 0x10007FFF ≡ refused 2 []
unfolding decode_of said
word_before_field = refl

no_opcode : decode_of 0xFF000000 ≡ refused 2 []
unfolding decode_of said
no_opcode = refl
