-- The ranges of an instruction's numbers, where their types are wider. They serve the proofs that a word keeps a machine well formed.
use Rattle.std.specs.Prelude.{ℕ, ◌+◌, ◌*◌, ◌<◌, ◌≤◌, ◌≡◌, Bool}
use Rattle.machine.specs.Sizes.{thread_gprs, thread_settings, bank_words, mutex_count, source_rows}
use Rattle.machine.specs.Answers.{Told, accepted, refused}
use Rattle.word_rules.specs.declared.instruction.Operand.{Operand}
use Rattle.word_rules.specs.declared.instruction.Operand.TheVariants.{Constant, Register}
use Rattle.word_rules.specs.declared.instruction.ScalarWord.{ScalarWord}
use Rattle.word_rules.specs.declared.instruction.ScalarWord.TheVariants.{SetDmaReg, AddDmaReg, MulDmaReg, DmaNop}
use Rattle.word_rules.specs.declared.instruction.SyncWord.{SyncWord}
use Rattle.word_rules.specs.declared.instruction.SyncWord.TheVariants.{AtGetM, AtRelM, StallWait, SemInit, SemPost, SemGet, SemWait}
use Rattle.word_rules.specs.declared.instruction.ConfigWord.{ConfigWord}
use Rattle.word_rules.specs.declared.instruction.ConfigWord.TheVariants.{WrCfg, RdCfg, SetC16, RmwCib}
use Rattle.word_rules.specs.declared.instruction.CellWord.{CellWord}
use Rattle.word_rules.specs.declared.instruction.CellWord.TheVariants.{TrnspSrcB, MovB2A, ZeroAcc}
use Rattle.word_rules.specs.declared.instruction.Instruction.{Instruction}
use Rattle.word_rules.specs.declared.instruction.Instruction.TheVariants.{Nop, Cell, Bank, Scalar, Sync, Config}
use Rattle.word_rules.specs.Marks.{view_rows}

-- a constant has 6 bits; a GPR number is 0 to 63
abbrev pub OperandInRange : Operand → Type 0
OperandInRange (Constant n) = n < 64
OperandInRange (Register g) = g.0 < thread_gprs

-- a half-register number is 0 to 127, a value has 16 bits
abbrev pub ScalarInRange : ScalarWord → Type 0
ScalarInRange (SetDmaReg half value) = (half.0 < 128) × (value < 65536)
ScalarInRange (AddDmaReg result a b) = (result.0 < thread_gprs) × (a.0 < thread_gprs) × OperandInRange b
ScalarInRange (MulDmaReg result a b) = (result.0 < thread_gprs) × (a.0 < thread_gprs) × OperandInRange b
ScalarInRange DmaNop = Unit

-- a mutex is 0 to 7, a semaphore's maximum and value 0 to 15; block has 9 bits, conditions 15, mask 8, condition 2
abbrev pub SyncInRange : SyncWord → Type 0
SyncInRange (AtGetM mutex) = mutex < mutex_count
SyncInRange (AtRelM mutex) = mutex < mutex_count
SyncInRange (StallWait block conditions) = (block < 512) × (conditions < 32768)
SyncInRange (SemInit maximum value mask) = (maximum < 16) × (value < 16) × (mask < 256)
SyncInRange (SemPost mask) = mask < 256
SyncInRange (SemGet mask) = mask < 256
SyncInRange (SemWait block mask condition) = (block < 512) × (mask < 256) × (condition < 4)

-- a Config index is 0 to 255, and RMWCIB's has 8 bits; a ThreadConfig entry is 0 to 63, a byte of a word 0 to 3
abbrev pub ConfigInRange : ConfigWord → Type 0
ConfigInRange (WrCfg g wide index) = (g.0 < thread_gprs) × (index < bank_words)
ConfigInRange (RdCfg g index) = (g.0 < thread_gprs) × (index < bank_words)
ConfigInRange (SetC16 entry value) = (entry < thread_settings) × (value < 65536)
ConfigInRange (RmwCib byte mask value index) = (byte < 4) × (mask < 256) × (value < 256) × (index < 256)

-- ZEROACC's place lies within its view. Mode 3 ignores it
pub record PlaceInView (mode : ℕ) (wide : Bool) (place : ℕ) : Type 0 where
  -- mode 0: the view row place
  pub row : mode ≡ 0 → place < view_rows wide
  -- mode 1: the 16 view rows from 16 x place
  pub sixteen : mode ≡ 1 → 16 * place + 16 ≤ view_rows wide
  -- mode 2: half place
  pub half : mode ≡ 2 → place < 2

-- a row of a source bank is 0 to 63, ZEROACC's mode 0 to 3
abbrev pub CellInRange : CellWord → Type 0
CellInRange TrnspSrcB = Unit
CellInRange (MovB2A rowA four rowB) = (rowA < source_rows) × (rowB < source_rows)
CellInRange (ZeroAcc mode wide place) = (mode < 4) × PlaceInView mode wide place

abbrev pub InRange : Instruction → Type 0
InRange Nop = Unit
InRange (Cell x) = CellInRange x
InRange (Bank x) = Unit
InRange (Scalar x) = ScalarInRange x
InRange (Sync x) = SyncInRange x
InRange (Config x) = ConfigInRange x

-- what is refused has no numbers
abbrev pub DecodedInRange : Told Instruction → Type 0
DecodedInRange (accepted i) = InRange i
DecodedInRange (refused n vs) = Unit
