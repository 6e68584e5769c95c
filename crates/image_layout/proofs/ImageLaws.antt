-- The image is a right format, whatever the kind and size of its Config record, and it can write exactly the well-formed machines.
use Prim.Native.Nat.{ℕ, ◌*◌, ◌^◌, ◌<◌}
use mathlib.Core.Path.{◌≡◌, refl}
use mathlib.Core.Bool.{true, ◌&&◌}
use lib.Dec.{lit<}
use Rattle.bits.specs.Ranges.{all_at_most}
use Rattle.bits.proofs.Choices.{and_left, and_right}
use Rattle.machine.specs.Machine.{Machine}
use Rattle.machine.specs.Sizes.{gpr_count, config_count, dest_count, source_count, half_most, cell_most, word_most}
use Rattle.machine.specs.Formed.{control_formed, stores_formed, sized, formed, well_formed}
use Rattle.machine.proofs.ControlFacts.{control_facts, control_formed_lem}
use Rattle.machine.proofs.StoreFacts.{SizedFacts, sized_facts, facts_sized, range_facts, facts_formed}
use Rattle.format.specs.Format.{numbers}
use Rattle.format.proofs.Lawful.{Lawful, both_lawful, numbers_lawful, via_lawful, kind_lawful, kind_ok, numbers_ok, ok_numbers}
use Rattle.image_layout.specs.Marks.{marks_format}
use Rattle.image_layout.specs.Control.{decided, control_format}
use Rattle.image_layout.specs.Image.{gprs_record, config_record, source_record, marks_size, dest_format, bodies, config_kind, machine_from, bodies_of, image}
use Rattle.image_layout.proofs.MarkLaws.{marks_lawful, marks_ok}
use Rattle.image_layout.proofs.ControlLaws.{control_lawful, control_ok, ok_control}

gprs_lawful : Lawful gprs_record
gprs_lawful = kind_lawful 2 _ (lit< tt) (lit< tt) (numbers_lawful gpr_count 4 word_most (lit< tt) (lit< tt))

config_lawful : (k n : ℕ) → k < 256 ^ 2 → n * 4 < 256 ^ 4 → Lawful (config_record k n)
config_lawful k n small few = kind_lawful k _ few small (numbers_lawful n 4 word_most (lit< tt) (lit< tt))

dest_lawful : Lawful dest_format
dest_lawful =
    both_lawful _ _ (kind_lawful 4 _ (lit< tt) (lit< tt) (numbers_lawful dest_count 2 half_most (lit< tt) (lit< tt)))
    (kind_lawful 5 (marks_format marks_size) (lit< tt) (lit< tt) (marks_lawful marks_size))

source_lawful : (k : ℕ) → k < 256 ^ 2 → Lawful (source_record k)
source_lawful k small = kind_lawful k _ (lit< tt) small (numbers_lawful source_count 3 cell_most (lit< tt) (lit< tt))

-- one law for all forms of images
pub bodies_lawful : (k n : ℕ) → k < 256 ^ 2 → n * 4 < 256 ^ 4 → Lawful (bodies k n)
bodies_lawful k n small few =
    let control = kind_lawful 1 control_format (lit< tt) (lit< tt) control_lawful in
    let words = both_lawful _ _ gprs_lawful (config_lawful k n small few) in
    let sources = both_lawful _ _ (source_lawful 6 (lit< tt)) (source_lawful 7 (lit< tt)) in
    both_lawful _ _ (both_lawful _ _ (both_lawful _ _ control words) dest_lawful) sources

pub image_lawful : Lawful image
image_lawful =
    via_lawful machine_from bodies_of (bodies config_kind config_count) (bodies_lawful config_kind config_count (lit< tt) (lit< tt)) (λ m. refl) (λ t ok. refl)

-- ---- savable is well formed
pub formed_ok : (m : Machine) → well_formed m ≡ true → image.Ok m
formed_ok m h =
    let k = m.kept in
    let f = and_right (sized m) (formed m) h in
    let s = sized_facts m (and_left (sized m) (formed m) h) in
    let c = control_formed m.control in
    let n = all_at_most half_most m.settings in
    let rest = and_right c (n && stores_formed k) f in
    let r = range_facts k (and_right n (stores_formed k) rest) in
    let facts = control_facts m.control (and_left c (n && stores_formed k) f) in
    let body = control_ok m.settings m.control s.settings (and_left n (stores_formed k) rest) facts in
    let control = kind_ok 1 control_format (decided m.settings m.control) body in
    let gprs = kind_ok 2 (numbers gpr_count 4 word_most) k.gprs (numbers_ok 4 word_most gpr_count k.gprs s.gprs r.gprs) in
    let words = numbers_ok 4 word_most config_count k.config s.config r.config in
    let config = kind_ok config_kind (numbers config_count 4 word_most) k.config words in
    let cells = numbers_ok 2 half_most dest_count k.dest.cells s.cells r.cells in
    let dest = kind_ok 4 (numbers dest_count 2 half_most) k.dest.cells cells in
    let marks = kind_ok 5 (marks_format marks_size) k.dest.marks (marks_ok marks_size k.dest.marks s.marks) in
    let src_a = kind_ok 6 (numbers source_count 3 cell_most) k.src_a (numbers_ok 3 cell_most source_count k.src_a s.src_a r.src_a) in
    let src_b = kind_ok 7 (numbers source_count 3 cell_most) k.src_b (numbers_ok 3 cell_most source_count k.src_b s.src_b r.src_b) in
    (tt, (((control, (gprs, config)), (dest, marks)), (src_a, src_b)))

pub ok_formed : (m : Machine) → image.Ok m → well_formed m ≡ true
ok_formed m ok =
    let k = m.kept in
    let c = ok_control m.settings m.control ok.1.0.0.0.1.1 in
    let g = ok_numbers 4 word_most gpr_count k.gprs ok.1.0.0.1.0.1.1 in
    let f = ok_numbers 4 word_most config_count k.config ok.1.0.0.1.1.1.1 in
    let d = ok_numbers 2 half_most dest_count k.dest.cells ok.1.0.1.0.1.1 in
    let v = ok.1.0.1.1.1.1.0 in
    let a = ok_numbers 3 cell_most source_count k.src_a ok.1.1.0.1.1 in
    let b = ok_numbers 3 cell_most source_count k.src_b ok.1.1.1.1.1 in
    let long : SizedFacts m.settings k =
    record { settings = c.0; gprs = g.0; config = f.0; cells = d.0; marks = v; src_a = a.0; src_b = b.0 } in
    let range = facts_formed k (record { gprs = g.1; config = f.1; cells = d.1; src_a = a.1; src_b = b.1 }) in
    rw (facts_sized m long, control_formed_lem m.control c.2, c.1, range)
