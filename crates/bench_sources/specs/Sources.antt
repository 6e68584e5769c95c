-- Bench access to rows of the source files: file 0 is SrcA, 1 is SrcB.
use Rattle.std.specs.Prelude.{ℕ, ◌+◌, ◌*◌, Bool, cond, ◌&&◌, List, [], eqb, leb, length, take, drop}
use Rattle.bits.specs.Overwrite.{over}
use Rattle.bits.specs.Ranges.{all_at_most}
use Rattle.machine.specs.Places.{row_place}
use Rattle.machine.specs.Control.{unpack_bank, unpackers_own}
use Rattle.machine.specs.Formed.{control_formed}
use Rattle.machine.specs.Sizes.{cell_most, row_cells, source_count}
use Rattle.machine.specs.declared.control.Control.{Control}
use Rattle.machine.specs.Answers.{Told, accepted, provided, Call, checked}

pub record Sources : Type 0 where
  pub src_a : List ℕ
  pub src_b : List ℕ

abbrev pub sources : List ℕ → List ℕ → Sources
sources a b = record { src_a = a; src_b = b }

-- the one of the two that belongs to the file
abbrev pub of_file : {A : Type 0} → ℕ → A → A → A
of_file file a b = cond (eqb file 0) a b

-- cells written into the store of the file; the other store is left
unfoldable pub with_source_row : Sources → ℕ → ℕ → ℕ → List ℕ → Sources
with_source_row s file bank row cells =
    sources (of_file file (over s.src_a (row_place bank row) cells) s.src_a)
    (of_file file s.src_b (over s.src_b (row_place bank row) cells))

-- both stores and the cells lent have their lengths
unfoldable pub sources_sized : Sources → List ℕ → Bool
sources_sized s cells =
    eqb (length s.src_a) source_count && (eqb (length s.src_b) source_count && eqb (length cells) row_cells)

-- what is lent of the machine is well formed: the control part, and stores with cells of 19 bits
unfoldable pub sources_formed : Control → Sources → Bool
sources_formed c s = control_formed c && (all_at_most cell_most s.src_a && all_at_most cell_most s.src_b)

-- file 0 or 1, row 0–63, and cells of 19 bits
unfoldable pub row_in_range : ℕ → ℕ → List ℕ → Bool
row_in_range file row cells = leb file 1 && (leb row 63 && all_at_most cell_most cells)

-- 12: the bank at the unpack pointer of the file is not owned by Unpackers
unfoldable pub source_check : Control → Sources → ℕ → ℕ → List ℕ → Told (Unit {0})
source_check c s file row cells =
    provided (sources_sized s cells) 4
    (provided (sources_formed c s) 10
    (provided (row_in_range file row cells) 11
    (provided (unpackers_own c file) 12
    (accepted tt))))

unfoldable pub write_source_row_of : Control → Sources → ℕ → ℕ → List ℕ → Call Sources
write_source_row_of c s file row cells =
    checked (source_check c s file row cells) s (with_source_row s file (unpack_bank c file) row cells)

-- both stores of their length; file, bank and row in range
unfoldable pub can_show : ℕ → ℕ → ℕ → ℕ → ℕ → Bool
can_show a b file bank row = (eqb a source_count && eqb b source_count) && (leb file 1 && (leb bank 1 && leb row 63))

-- the sixteen cells of a row as a part of the file's store; an empty part where there is none
unfoldable pub shown_row : List ℕ → List ℕ → ℕ → ℕ → ℕ → List ℕ
shown_row a b file bank row =
    cond (can_show (length a) (length b) file bank row) (take row_cells (drop (row_place bank row) (of_file file a b))) []

-- where the part begins in memory, given where the stores do: it lies in the file's store itself, at 4 bytes a cell
abbrev pub shown_at : ℕ × ℕ → ℕ × ℕ → ℕ → ℕ → ℕ → ℕ × ℕ
shown_at a b file bank row = ((of_file file a b).0, row_place bank row * 4 + (of_file file a b).1)
