-- The words of the matrix unit, block bit B6, that work on source cells and Dest's marks: what each says, and what it does to the
-- stores. Bits not named are ignored.
use Rattle.std.specs.Prelude.{ℕ, ◌+◌, ◌*◌, ◌/◌, Bool, true, cond, List, eqb, leb, ltb, get_or}
use Rattle.bits.specs.Field.{field, flag, down_to_four}
use Rattle.bits.specs.Copies.{copied}
use Rattle.dest.specs.declared.flags.Flags.{Flags}
use Rattle.dest.specs.Flags.{flag_word, flags_of}
use Rattle.machine.specs.Sizes.{row_cells}
use Rattle.machine.specs.Places.{config_place, row_place}
use Rattle.machine.specs.Machine.{Stores, with_marks, with_src_a, with_src_b}
use Rattle.machine.specs.Answers.{Told, accepted, provided}
use Rattle.word_rules.specs.declared.instruction.CellWord.{CellWord}
use Rattle.word_rules.specs.declared.instruction.CellWord.TheVariants.{TrnspSrcB, MovB2A, ZeroAcc}
use Rattle.word_rules.specs.declared.instruction.Instruction.{Instruction}
use Rattle.word_rules.specs.declared.instruction.Instruction.TheVariants.{Cell}
use Rattle.word_rules.specs.Face.{face_transposed}
use Rattle.word_rules.specs.Marks.{view_rows, clear_rows}

-- ---- what a word says

-- TRNSPSRCB: no field
abbrev pub trnsp_src_b_of : ℕ → Told Instruction
trnsp_src_b_of w = accepted (Cell TrnspSrcB)

-- AddrMod 14–16 is 0; else 2
abbrev pub no_addr_mod : ℕ → Bool
no_addr_mod w = eqb (field 14 3 w) 0

-- MOVB2A: A row 17–22, AddrMod 14–16, four-row bit 13, B row 0–5
abbrev pub mov_b2a_of : ℕ → Told Instruction
mov_b2a_of w =
    provided (no_addr_mod w) 2
    (accepted (Cell (MovB2A (field 17 6 w) (flag 13 w) (field 0 6 w))))

-- whether place lies in a view of so many rows. Mode 0: view row place; 1: the 16 view rows from 16 x place;
-- 2: half place, 0 or 1; 3: place ignored
abbrev pub place_in_rows : ℕ → ℕ → ℕ → Bool
place_in_rows rows mode place =
    cond (eqb mode 0) (ltb place rows)
    (cond (eqb mode 1) (leb (16 * place + 16) rows)
    (cond (eqb mode 2) (leb place 1)
    true))

-- ZEROACC: mode 19–20, 32-bit view 18, AddrMod 14–16, place 0–13; a place past its view is 3
abbrev pub zero_acc_of : ℕ → Told Instruction
zero_acc_of w =
    provided (no_addr_mod w) 2
    (provided (place_in_rows (view_rows (flag 18 w)) (field 19 2 w) (field 0 14 w)) 3
    (accepted (Cell (ZeroAcc (field 19 2 w) (flag 18 w) (field 0 14 w)))))

-- ---- what it does

-- TRNSPSRCB: transposes the 16x16 face in rows 16–31 of SrcB's matrix bank
abbrev pub after_trnsp_src_b : ℕ → List ℕ → List ℕ
after_trnsp_src_b bankB src_b = face_transposed (row_place bankB 16) src_b

-- MOVB2A: copies one row, or four with both rows rounded down to a multiple of 4, from SrcB's to SrcA's matrix bank
abbrev pub after_mov_b2a : ℕ → ℕ → ℕ → Bool → ℕ → List ℕ → List ℕ → List ℕ
after_mov_b2a bankA bankB rowA four rowB src_b src_a =
    cond four (copied (4 * row_cells) (row_place bankB (down_to_four rowB)) (row_place bankA (down_to_four rowA)) src_b src_a)
    (copied row_cells (row_place bankB rowB) (row_place bankA rowA) src_b src_a)

-- the flags of the Dest maps in a Config bank
abbrev pub flags_in : ℕ → List ℕ → Flags
flags_in bank config = flags_of (get_or config (config_place bank flag_word) 0)

-- ZEROACC: mode 0: view row place; 1: the 16 view rows from 16 x place; 2: half place of the view; 3: all, place ignored
abbrev pub first_row : ℕ → Bool → ℕ → ℕ
first_row mode wide place =
    cond (eqb mode 0) place (cond (eqb mode 1) (16 * place) (cond (eqb mode 2) (view_rows wide / 2 * place) 0))

-- mode 0: one row; 1: 16 rows; 2: half of the view; 3: all of it
abbrev pub row_count : ℕ → Bool → ℕ
row_count mode wide = cond (eqb mode 0) 1 (cond (eqb mode 1) 16 (cond (eqb mode 2) (view_rows wide / 2) (view_rows wide)))

-- ZEROACC only clears valid marks, with the flags of the thread's Config bank
abbrev pub after_zero_acc : ℕ → ℕ → Bool → ℕ → List ℕ → List Bool → List Bool
after_zero_acc bank mode wide place config marks =
    clear_rows wide (flags_in bank config) (first_row mode wide place) (row_count mode wide) marks

-- the stores after a word of a thread whose Config bank is `bank`, with the banks at the matrix pointers of SrcA and SrcB
unfoldable pub cell_after : CellWord → ℕ → ℕ → ℕ → Stores → Stores
cell_after TrnspSrcB bank bankA bankB k = with_src_b k (after_trnsp_src_b bankB k.src_b)
cell_after (MovB2A rowA four rowB) bank bankA bankB k = with_src_a k (after_mov_b2a bankA bankB rowA four rowB k.src_b k.src_a)
cell_after (ZeroAcc mode wide place) bank bankA bankB k = with_marks k (after_zero_acc bank mode wide place k.config k.dest.marks)
