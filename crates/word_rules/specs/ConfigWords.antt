-- The words of the config unit, block bit B7: what each says, and what it does to the thread settings and the stores. Bits not named
-- are ignored.
use Rattle.std.specs.Prelude.{ℕ, ◌-◌, ◌/◌, ◌%◌, ◌^◌, Bool, cond, ◌&&◌, List, ltb, set, get_or}
use Rattle.std.specs.Int.Bits.{bit_and, bit_or}
use Rattle.bits.specs.Field.{field, flag, down_to_four, with_byte}
use Rattle.bits.specs.Copies.{copied}
use Rattle.machine.specs.declared.units.GprNumber.{GprNumber}
use Rattle.machine.specs.Units.{gpr, gpr_place}
use Rattle.machine.specs.Sizes.{thread_gprs, bank_words}
use Rattle.machine.specs.Places.{setting_place, config_place}
use Rattle.machine.specs.Machine.{Stores, with_gprs, with_config}
use Rattle.machine.specs.Answers.{Told, accepted, provided}
use Rattle.word_rules.specs.declared.instruction.ConfigWord.{ConfigWord}
use Rattle.word_rules.specs.declared.instruction.ConfigWord.TheVariants.{WrCfg, RdCfg, SetC16, RmwCib}
use Rattle.word_rules.specs.declared.instruction.Instruction.{Instruction}
use Rattle.word_rules.specs.declared.instruction.Instruction.TheVariants.{Config}
use Rattle.word_rules.specs.ScalarWords.{gpr_of}

-- ---- what a word says

-- WRCFG: GPR 16–21, 128-bit 15, index 0–10; index over 255, as written, is 3
abbrev pub wr_cfg_of : ℕ → Told Instruction
wr_cfg_of w =
    provided (ltb (field 0 11 w) bank_words) 3
    (accepted (Config (WrCfg (gpr (field 16 6 w)) (flag 15 w) (field 0 11 w))))

-- RDCFG: GPR 16–23, index 0–10; GPR over 63 or index over 255 is 3
abbrev pub rd_cfg_of : ℕ → Told Instruction
rd_cfg_of w =
    provided (ltb (field 16 8 w) thread_gprs && ltb (field 0 11 w) bank_words) 3
    (accepted (Config (RdCfg (gpr (field 16 8 w)) (field 0 11 w))))

-- SETC16: entry 16–21, value 0–15
abbrev pub set_c16_of : ℕ → Told Instruction
set_c16_of w = accepted (Config (SetC16 (field 16 6 w) (field 0 16 w)))

-- RMWCIB0–3, by their byte: mask 16–23, data 8–15, index 0–7
abbrev pub rmw_cib_of : ℕ → ℕ → Told Instruction
rmw_cib_of byte w = accepted (Config (RmwCib byte (field 16 8 w) (field 8 8 w) (field 0 8 w)))

-- ---- what it does

-- a thread's Config bank: bit 0 of its ThreadConfig entry 0
abbrev pub bank_of : List ℕ → ℕ → ℕ
bank_of settings t = field 0 1 (get_or settings (setting_place t 0) 0)

-- WRCFG: the word at the index takes the GPR; 128-bit rounds both numbers down to a multiple of 4 and copies four
abbrev pub after_wr_cfg : ℕ → ℕ → GprNumber → Bool → ℕ → List ℕ → List ℕ → List ℕ
after_wr_cfg t bank g wide index gprs config =
    cond wide (copied 4 (gpr_place t (gpr (down_to_four g.0))) (config_place bank (down_to_four index)) gprs config)
    (set config (config_place bank index) (gpr_of t g gprs))

-- RDCFG: the GPR takes the word at the index of the Config bank
abbrev pub after_rd_cfg : ℕ → ℕ → GprNumber → ℕ → List ℕ → List ℕ → List ℕ
after_rd_cfg t bank g index config gprs = set gprs (gpr_place t g) (get_or config (config_place bank index) 0)

-- SETC16: the thread's entry takes the value
abbrev pub after_set_c16 : ℕ → ℕ → ℕ → List ℕ → List ℕ
after_set_c16 t entry value settings = set settings (setting_place t entry) value

-- byte k of a word, the lowest being 0
abbrev pub byte_of : ℕ → ℕ → ℕ
byte_of k x = x / 256 ^ k % 256

-- (data and mask) or (old and not mask), of bytes
abbrev pub merged : ℕ → ℕ → ℕ → ℕ
merged mask value old = bit_or (bit_and value mask) (bit_and old (255 - mask))

-- RMWCIB0–3: of the word at the index, the byte is merged and the others stay
abbrev pub with_merged : ℕ → ℕ → ℕ → ℕ → ℕ
with_merged byte mask value x = with_byte byte (merged mask value (byte_of byte x)) x

abbrev pub after_rmw_cib : ℕ → ℕ → ℕ → ℕ → ℕ → List ℕ → List ℕ
after_rmw_cib bank byte mask value index config =
    set config (config_place bank index) (with_merged byte mask value (get_or config (config_place bank index) 0))

-- the stores after a word of thread t, whose Config bank is `bank`
unfoldable pub config_after : ConfigWord → ℕ → ℕ → Stores → Stores
config_after (WrCfg g wide index) t bank k = with_config k (after_wr_cfg t bank g wide index k.gprs k.config)
config_after (RdCfg g index) t bank k = with_gprs k (after_rd_cfg t bank g index k.config k.gprs)
config_after (SetC16 entry value) t bank k = k
config_after (RmwCib byte mask value index) t bank k = with_config k (after_rmw_cib bank byte mask value index k.config)

-- the settings after it: no store is asked
unfoldable pub config_settings : ConfigWord → ℕ → List ℕ → List ℕ
config_settings (WrCfg g wide index) t settings = settings
config_settings (RdCfg g index) t settings = settings
config_settings (SetC16 entry value) t settings = after_set_c16 t entry value settings
config_settings (RmwCib byte mask value index) t settings = settings
