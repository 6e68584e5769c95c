-- The saved image (document 01, "Saved image"): records of kinds 1 to 7 in order, as one format of a machine. Config's record is
-- the one whose kind and size may change from one form of images to the next.
use Rattle.std.specs.Prelude.{ℕ, ◌/◌, Bool, List}
use Rattle.machine.specs.Machine.{Machine, machine}
use Rattle.machine.specs.Sizes.{gpr_count, config_count, dest_count, mark_count, source_count, half_most, cell_most, word_most}
use Rattle.format.specs.Format.{Format, both, numbers, via, kind}
use Rattle.image_layout.specs.Marks.{marks_format}
use Rattle.image_layout.specs.Control.{Decided, decided, control_format}

-- 1 (431): the control part with ThreadConfig
abbrev pub control_record : Format Decided
control_record = kind 1 control_format

-- 2 (768): the GPRs
abbrev pub gprs_record : Format (List ℕ)
gprs_record = kind 2 (numbers gpr_count 4 word_most)

-- k: the n words of Config
abbrev pub config_record : ℕ → ℕ → Format (List ℕ)
config_record k n = kind k (numbers n 4 word_most)

-- 4 (32,768): Dest
abbrev pub dest_record : Format (List ℕ)
dest_record = kind 4 (numbers dest_count 2 half_most)

-- 5 (128): Dest's marks, eight to a byte
abbrev pub marks_size : ℕ
marks_size = mark_count / 8

abbrev pub marks_record : Format (List Bool)
marks_record = kind 5 (marks_format marks_size)

-- 6, 7 (6,144): SrcA and SrcB, 3 bytes a cell
abbrev pub source_record : ℕ → Format (List ℕ)
source_record k = kind k (numbers source_count 3 cell_most)

-- in pairs
abbrev pub words_format : ℕ → ℕ → Format (List ℕ × List ℕ)
words_format k n = both gprs_record (config_record k n)

abbrev pub dest_format : Format (List ℕ × List Bool)
dest_format = both dest_record marks_record

abbrev pub sources_format : Format (List ℕ × List ℕ)
sources_format = both (source_record 6) (source_record 7)

-- the seven bodies, as they stand
abbrev pub Bodies : Type 0
Bodies = ((Decided × (List ℕ × List ℕ)) × (List ℕ × List Bool)) × (List ℕ × List ℕ)

-- an image whose Config record is of kind k and has n words
abbrev pub bodies : ℕ → ℕ → Format Bodies
bodies k n = both (both (both control_record (words_format k n)) dest_format) sources_format

abbrev pub machine_from : Bodies → Machine
machine_from t =
    machine t.0.0.0.control t.0.0.0.settings t.0.0.1.0 t.0.0.1.1 t.0.1.0 t.0.1.1 t.1.0 t.1.1

abbrev pub bodies_of : Machine → Bodies
bodies_of m =
    let k = m.kept in
    (((decided m.settings m.control, (k.gprs, k.config)), (k.dest.cells, k.dest.marks)), (k.src_a, k.src_b))

-- 3 (2,048): Config
abbrev pub config_kind : ℕ
config_kind = 3

abbrev pub image : Format Machine
image = via machine_from bodies_of (bodies config_kind config_count)

abbrev pub image_size : ℕ
image_size = image.size
