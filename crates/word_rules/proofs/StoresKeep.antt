-- A word keeps the sizes of the settings and the stores, and keeps their numbers in range.
use Prim.Native.Nat.{ℕ, ◌*◌, ◌≤◌, ◌<◌}
use mathlib.Core.Path.{◌≡◌, refl}
use mathlib.Core.Bool.{Bool, true}
use mathlib.Core.List.{List}
use native.Mathlib.Nat.{mul-le-mul}
use native.Mathlib.Omega.{arith}
use lib.ListN.{length, length-set}
use Rattle.bits.specs.Field.{field}
use Rattle.bits.specs.Ranges.{all_at_most}
use Rattle.bits.proofs.Choices.{cond_both}
use Rattle.bits.proofs.Ranges.{at_most_at, at_most_set}
use Rattle.bits.proofs.Copies.{copied_long, copied_at_most}
use Rattle.machine.specs.declared.units.HalfRegister.{HalfRegister}
use Rattle.machine.specs.Units.{is_high_half}
use Rattle.machine.specs.Sizes.{half_most, cell_most, word_most}
use Rattle.machine.specs.Machine.{Stores, with_gprs, with_config, with_marks, with_src_a, with_src_b}
use Rattle.machine.specs.Formed.{stores_sized, stores_formed}
use Rattle.machine.proofs.StoreFacts.{RangeFacts, range_facts, facts_formed}
use Rattle.word_rules.specs.declared.instruction.ScalarWord.{ScalarWord}
use Rattle.word_rules.specs.declared.instruction.ScalarWord.TheVariants.{SetDmaReg, AddDmaReg, MulDmaReg, DmaNop}
use Rattle.word_rules.specs.declared.instruction.ConfigWord.{ConfigWord}
use Rattle.word_rules.specs.declared.instruction.ConfigWord.TheVariants.{WrCfg, RdCfg, SetC16, RmwCib}
use Rattle.word_rules.specs.declared.instruction.CellWord.{CellWord}
use Rattle.word_rules.specs.declared.instruction.CellWord.TheVariants.{TrnspSrcB, MovB2A, ZeroAcc}
use Rattle.word_rules.specs.declared.instruction.Instruction.{Instruction}
use Rattle.word_rules.specs.declared.instruction.Instruction.TheVariants.{Nop, Cell, Bank, Scalar, Sync, Config}
use Rattle.word_rules.specs.ScalarWords.{gpr_of, operand_of, with_half, scalar_after}
use Rattle.word_rules.specs.ConfigWords.{bank_of, config_after, config_settings}
use Rattle.word_rules.specs.CellWords.{cell_after}
use Rattle.word_rules.specs.After.{settings_after, stores_after}
use Rattle.word_rules.specs.InRange.{InRange, ScalarInRange, ConfigInRange}
use Rattle.word_rules.proofs.Bytes.{with_merged_at_most}
use Rattle.word_rules.proofs.FaceLaws.{face_long, face_at_most}
use Rattle.word_rules.proofs.MarkLaws.{clear_long}

-- ---- the settings
pub settings_long : (i : Instruction) (t : ℕ) (s : List ℕ) → length (settings_after i t s) ≡ length s
unfolding config_settings
settings_long Nop t s = refl
settings_long (Cell x) t s = refl
settings_long (Bank x) t s = refl
settings_long (Scalar x) t s = refl
settings_long (Sync x) t s = refl
settings_long (Config (WrCfg g wide index)) t s = refl
settings_long (Config (RdCfg g index)) t s = refl
settings_long (Config (SetC16 entry value)) t s = simp length-set
settings_long (Config (RmwCib byte mask value index)) t s = refl

pub settings_range : (i : Instruction) (t : ℕ) (s : List ℕ) → InRange i → all_at_most half_most s ≡ true → all_at_most half_most (settings_after i t s) ≡ true
unfolding config_settings
settings_range Nop t s r h = h
settings_range (Cell x) t s r h = h
settings_range (Bank x) t s r h = h
settings_range (Scalar x) t s r h = h
settings_range (Sync x) t s r h = h
settings_range (Config (WrCfg g wide index)) t s r h = h
settings_range (Config (RdCfg g index)) t s r h = h
settings_range (Config (SetC16 entry value)) t s r h = at_most_set half_most s _ value h (omega (arith, r.1))
settings_range (Config (RmwCib byte mask value index)) t s r h = h

-- ---- one store replaced by one of its length, or in its range
module _ (k : Stores) where
  gprs_sized : (g : List ℕ) → length g ≡ length k.gprs → stores_sized (with_gprs k g) ≡ stores_sized k
  unfolding stores_sized
  gprs_sized g e = rw e

  config_sized : (c : List ℕ) → length c ≡ length k.config → stores_sized (with_config k c) ≡ stores_sized k
  unfolding stores_sized
  config_sized c e = rw e

  marks_sized : (v : List Bool) → length v ≡ length k.dest.marks → stores_sized (with_marks k v) ≡ stores_sized k
  unfolding stores_sized
  marks_sized v e = rw e

  src_a_sized : (a : List ℕ) → length a ≡ length k.src_a → stores_sized (with_src_a k a) ≡ stores_sized k
  unfolding stores_sized
  src_a_sized a e = rw e

  src_b_sized : (b : List ℕ) → length b ≡ length k.src_b → stores_sized (with_src_b k b) ≡ stores_sized k
  unfolding stores_sized
  src_b_sized b e = rw e

  module _ (r : RangeFacts k) where
    gprs_range : (g : List ℕ) → all_at_most word_most g ≡ true → RangeFacts (with_gprs k g)
    gprs_range g h = record { gprs = h; config = r.config; cells = r.cells; src_a = r.src_a; src_b = r.src_b }

    config_range : (c : List ℕ) → all_at_most word_most c ≡ true → RangeFacts (with_config k c)
    config_range c h = record { gprs = r.gprs; config = h; cells = r.cells; src_a = r.src_a; src_b = r.src_b }

    marks_range : (v : List Bool) → RangeFacts (with_marks k v)
    marks_range v = record { gprs = r.gprs; config = r.config; cells = r.cells; src_a = r.src_a; src_b = r.src_b }

    src_a_range : (a : List ℕ) → all_at_most cell_most a ≡ true → RangeFacts (with_src_a k a)
    src_a_range a h = record { gprs = r.gprs; config = r.config; cells = r.cells; src_a = h; src_b = r.src_b }

    src_b_range : (b : List ℕ) → all_at_most cell_most b ≡ true → RangeFacts (with_src_b k b)
    src_b_range b h = record { gprs = r.gprs; config = r.config; cells = r.cells; src_a = r.src_a; src_b = h }

-- ---- the scalar words
scalar_sized : (x : ScalarWord) (t : ℕ) (k : Stores) → stores_sized (scalar_after x t k) ≡ stores_sized k
unfolding scalar_after
scalar_sized (SetDmaReg half value) t k = gprs_sized k _ (length-set k.gprs _ _)
scalar_sized (AddDmaReg result a b) t k = gprs_sized k _ (length-set k.gprs _ _)
scalar_sized (MulDmaReg result a b) t k = gprs_sized k _ (length-set k.gprs _ _)
scalar_sized DmaNop t k = refl

half_at_most : (half : HalfRegister) (value x : ℕ) → value < 65536 → with_half half value x ≤ word_most
half_at_most half value x h = cond_both (λ (y : ℕ). y ≤ word_most) (is_high_half half) (omega arith) (omega arith)

product_word : (x y : ℕ) → field 0 16 x * field 0 16 y ≤ word_most
product_word x y =
    let h : field 0 16 x * field 0 16 y ≤ 65535 * 65535 = mul-le-mul {n₂ = 65535} {m₂ = 65535} (omega arith) (omega arith) in
    omega arith

scalar_range : (x : ScalarWord) (t : ℕ) (k : Stores) → ScalarInRange x → RangeFacts k → RangeFacts (scalar_after x t k)
unfolding scalar_after
scalar_range (SetDmaReg half value) t k n r = gprs_range k r _ (at_most_set word_most k.gprs _ _ r.gprs (half_at_most half value _ n.1))
scalar_range (AddDmaReg result a b) t k n r = gprs_range k r _ (at_most_set word_most k.gprs _ _ r.gprs (omega arith))
scalar_range (MulDmaReg result a b) t k n r =
    gprs_range k r _ (at_most_set word_most k.gprs _ _ r.gprs (product_word (gpr_of t a k.gprs) (operand_of t b k.gprs)))
scalar_range DmaNop t k n r = r

-- ---- the config words
config_words_sized : (x : ConfigWord) (t bank : ℕ) (k : Stores) → stores_sized (config_after x t bank k) ≡ stores_sized k
unfolding config_after
config_words_sized (WrCfg g wide index) t bank k =
    config_sized k _
    (cond_both (λ (l : List ℕ). length l ≡ length k.config) wide (copied_long _ _ _ k.gprs k.config) (length-set k.config _ _))
config_words_sized (RdCfg g index) t bank k = gprs_sized k _ (length-set k.gprs _ _)
config_words_sized (SetC16 entry value) t bank k = refl
config_words_sized (RmwCib byte mask value index) t bank k = config_sized k _ (length-set k.config _ _)

config_words_range : (x : ConfigWord) (t bank : ℕ) (k : Stores) → ConfigInRange x → RangeFacts k → RangeFacts (config_after x t bank k)
unfolding config_after
config_words_range (WrCfg g wide index) t bank k n r =
    config_range k r _
    (cond_both (λ (l : List ℕ). all_at_most word_most l ≡ true) wide (copied_at_most word_most _ _ _ k.gprs k.config r.gprs r.config)
    (at_most_set word_most k.config _ _ r.config (at_most_at word_most k.gprs _ r.gprs)))
config_words_range (RdCfg g index) t bank k n r =
    gprs_range k r _ (at_most_set word_most k.gprs _ _ r.gprs (at_most_at word_most k.config _ r.config))
config_words_range (SetC16 entry value) t bank k n r = r
config_words_range (RmwCib byte mask value index) t bank k n r =
    config_range k r _
    (at_most_set word_most k.config _ _ r.config
    (with_merged_at_most byte mask value _ n.0 (omega (arith, n.1)) (omega (arith, n.2)) (at_most_at word_most k.config _ r.config)))

-- ---- the cell words
cell_sized : (x : CellWord) (bank bankA bankB : ℕ) (k : Stores) → stores_sized (cell_after x bank bankA bankB k) ≡ stores_sized k
unfolding cell_after
cell_sized TrnspSrcB bank bankA bankB k = src_b_sized k _ (face_long _ k.src_b)
cell_sized (MovB2A rowA four rowB) bank bankA bankB k =
    src_a_sized k _
    (cond_both (λ (l : List ℕ). length l ≡ length k.src_a) four (copied_long _ _ _ k.src_b k.src_a) (copied_long _ _ _ k.src_b k.src_a))
cell_sized (ZeroAcc mode wide place) bank bankA bankB k = marks_sized k _ (clear_long wide _ _ _ k.dest.marks)

cell_range : (x : CellWord) (bank bankA bankB : ℕ) (k : Stores) → RangeFacts k → RangeFacts (cell_after x bank bankA bankB k)
unfolding cell_after
cell_range TrnspSrcB bank bankA bankB k r = src_b_range k r _ (face_at_most cell_most _ k.src_b r.src_b)
cell_range (MovB2A rowA four rowB) bank bankA bankB k r =
    src_a_range k r _
    (cond_both (λ (l : List ℕ). all_at_most cell_most l ≡ true) four (copied_at_most cell_most _ _ _ k.src_b k.src_a r.src_b r.src_a)
    (copied_at_most cell_most _ _ _ k.src_b k.src_a r.src_b r.src_a))
cell_range (ZeroAcc mode wide place) bank bankA bankB k r = marks_range k r _

-- ---- any word
pub stores_sized_lem : (i : Instruction) (t bankA bankB : ℕ) (s : List ℕ) (k : Stores) → stores_sized (stores_after i t bankA bankB s k) ≡ stores_sized k
stores_sized_lem Nop t bankA bankB s k = refl
stores_sized_lem (Cell x) t bankA bankB s k = cell_sized x (bank_of s t) bankA bankB k
stores_sized_lem (Bank x) t bankA bankB s k = refl
stores_sized_lem (Scalar x) t bankA bankB s k = scalar_sized x t k
stores_sized_lem (Sync x) t bankA bankB s k = refl
stores_sized_lem (Config x) t bankA bankB s k = config_words_sized x t (bank_of s t) k

stores_range : (i : Instruction) (t bankA bankB : ℕ) (s : List ℕ) (k : Stores) → InRange i → RangeFacts k → RangeFacts (stores_after i t bankA bankB s k)
stores_range Nop t bankA bankB s k n r = r
stores_range (Cell x) t bankA bankB s k n r = cell_range x (bank_of s t) bankA bankB k r
stores_range (Bank x) t bankA bankB s k n r = r
stores_range (Scalar x) t bankA bankB s k n r = scalar_range x t k n r
stores_range (Sync x) t bankA bankB s k n r = r
stores_range (Config x) t bankA bankB s k n r = config_words_range x t (bank_of s t) k n r

pub stores_formed_lem : (i : Instruction) (t bankA bankB : ℕ) (s : List ℕ) (k : Stores) → InRange i → stores_formed k ≡ true →
    stores_formed (stores_after i t bankA bankB s k) ≡ true
stores_formed_lem i t bankA bankB s k n h = facts_formed _ (stores_range i t bankA bankB s k n (range_facts k h))
