-- The table of document 01, "Words of the base": which opcode is which word's. The rows stand in the table's order; what each word says,
-- when it waits and what it does stands in the file of its rows.
use Rattle.std.specs.Prelude.{ℕ, Bool, false, cond, ◌||◌, List, [], ◌∷◌, ◌++◌, eqb}
use Rattle.bits.specs.Field.{field}
use Rattle.machine.specs.Answers.{Told, accepted, refused}
use Rattle.word_rules.specs.declared.instruction.Instruction.{Instruction}
use Rattle.word_rules.specs.declared.instruction.Instruction.TheVariants.{Nop}
use Rattle.word_rules.specs.CellWords.{trnsp_src_b_of, mov_b2a_of, zero_acc_of}
use Rattle.word_rules.specs.BankWords.{clear_d_valid_of, set_d_valid_of}
use Rattle.word_rules.specs.ScalarWords.{set_dma_reg_of, add_dma_reg_of, mul_dma_reg_of, dma_nop_of}
use Rattle.word_rules.specs.SyncWords.{at_get_m_of, at_rel_m_of, stall_wait_of, sem_init_of, sem_post_of, sem_get_of, sem_wait_of}
use Rattle.word_rules.specs.ConfigWords.{wr_cfg_of, rd_cfg_of, set_c16_of, rmw_cib_of}

-- a row: the opcode, and what a word with it says
pub record Row : Type 0 where
  pub opcode : ℕ
  pub says : ℕ → Told Instruction

abbrev pub row : ℕ → (ℕ → Told Instruction) → Row
row op says = record { opcode = op; says = says }

-- NOP: no field, no block bit
abbrev pub nop_of : ℕ → Told Instruction
nop_of w = accepted Nop

abbrev pub nop_rows : List Row
nop_rows = row 0x02 nop_of ∷ []

-- B6: source cells and marks
abbrev pub cell_rows : List Row
cell_rows = row 0x16 trnsp_src_b_of ∷ row 0x0B mov_b2a_of ∷ row 0x10 zero_acc_of ∷ []

-- B6: bank owners and pointers
abbrev pub bank_rows : List Row
bank_rows = row 0x36 clear_d_valid_of ∷ row 0x57 set_d_valid_of ∷ []

-- B5
abbrev pub scalar_rows : List Row
scalar_rows = row 0x45 set_dma_reg_of ∷ row 0x58 add_dma_reg_of ∷ row 0x5A mul_dma_reg_of ∷ row 0x60 dma_nop_of ∷ []

-- B1
abbrev pub sync_rows : List Row
sync_rows =
    row 0xA0 at_get_m_of ∷ row 0xA1 at_rel_m_of ∷ row 0xA2 stall_wait_of ∷ row 0xA3 sem_init_of ∷ row 0xA4 sem_post_of ∷ row 0xA5 sem_get_of
    ∷ row 0xA6 sem_wait_of ∷ []

-- B7
abbrev pub config_rows : List Row
config_rows =
    row 0xB0 wr_cfg_of ∷ row 0xB1 rd_cfg_of ∷ row 0xB2 set_c16_of ∷ row 0xB3 (rmw_cib_of 0) ∷ row 0xB4 (rmw_cib_of 1) ∷ row 0xB5 (rmw_cib_of 2)
    ∷ row 0xB6 (rmw_cib_of 3) ∷ []

abbrev pub table : List Row
table = nop_rows ++ (cell_rows ++ (bank_rows ++ (scalar_rows ++ (sync_rows ++ config_rows))))

-- the words that work on the control part, and those that leave it alone
abbrev pub control_rows : List Row
control_rows = bank_rows ++ sync_rows

abbrev pub store_rows : List Row
store_rows = nop_rows ++ (scalar_rows ++ (config_rows ++ cell_rows))

-- whether some row has the opcode
unfoldable pub has : List Row → ℕ → Bool
has [] op = false
has (r ∷ rs) op = eqb op r.opcode || has rs op

-- what a word with the opcode says, by the first row that has it; any other opcode is 2
unfoldable pub said : List Row → ℕ → ℕ → Told Instruction
said [] op w = refused 2 []
said (r ∷ rs) op w = cond (eqb op r.opcode) (r.says w) (said rs op w)

-- the opcode is bits 24–31
unfoldable pub decode_of : ℕ → Told Instruction
decode_of w = said table (field 24 8 w) w
