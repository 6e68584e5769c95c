-- What the settings and the stores of a well-formed machine have, one fact each, and back.
use Prim.Native.Nat.{ℕ}
use mathlib.Core.Path.{◌≡◌}
use mathlib.Core.Bool.{Bool, true, ◌&&◌}
use mathlib.Core.List.{List}
use lib.Dec.{eqb}
use lib.ListN.{length}
use borrow.Author.Tests.{eqb-true, eq-eqb}
use Rattle.bits.specs.Ranges.{all_at_most}
use Rattle.bits.proofs.Choices.{and_left, and_right}
use Rattle.machine.specs.Sizes.{setting_count, gpr_count, config_count, dest_count, mark_count, source_count, half_most, cell_most, word_most}
use Rattle.machine.specs.Machine.{Machine, Stores}
use Rattle.machine.specs.Formed.{sized, stores_sized, stores_formed}

-- ---- sizes
pub record SizedFacts (s : List ℕ) (k : Stores) : Type 0 where
  pub settings : length s ≡ setting_count
  pub gprs : length k.gprs ≡ gpr_count
  pub config : length k.config ≡ config_count
  pub cells : length k.dest.cells ≡ dest_count
  pub marks : length k.dest.marks ≡ mark_count
  pub src_a : length k.src_a ≡ source_count
  pub src_b : length k.src_b ≡ source_count

-- the length that the first of two tests asks
first : (n k : ℕ) (b : Bool) → (eqb n k && b) ≡ true → n ≡ k
first n k b h = eqb-true n k (and_left (eqb n k) b h)

pub sized_facts : (m : Machine) → sized m ≡ true → SizedFacts m.settings m.kept
unfolding stores_sized
sized_facts m h =
    let k = m.kept in
    let g = eqb (length k.gprs) gpr_count in
    let f = eqb (length k.config) config_count in
    let d = eqb (length k.dest.cells) dest_count in
    let v = eqb (length k.dest.marks) mark_count in
    let a = eqb (length k.src_a) source_count in
    let b = eqb (length k.src_b) source_count in
    let h0 = and_right (eqb (length m.settings) setting_count) (stores_sized k) h in
    let h1 = and_right g (f && (d && (v && (a && b)))) h0 in
    let h2 = and_right f (d && (v && (a && b))) h1 in
    let h3 = and_right d (v && (a && b)) h2 in
    let h4 = and_right v (a && b) h3 in
    record {
      settings = first (length m.settings) setting_count (stores_sized k) h;
      gprs = first (length k.gprs) gpr_count (f && (d && (v && (a && b)))) h0;
      config = first (length k.config) config_count (d && (v && (a && b))) h1;
      cells = first (length k.dest.cells) dest_count (v && (a && b)) h2;
      marks = first (length k.dest.marks) mark_count (a && b) h3;
      src_a = first (length k.src_a) source_count b h4;
      src_b = eqb-true (length k.src_b) source_count (and_right a b h4);
    }

pub facts_sized : (m : Machine) → SizedFacts m.settings m.kept → sized m ≡ true
unfolding stores_sized
facts_sized m f =
    rw (eq-eqb _ _ f.settings, eq-eqb _ _ f.gprs, eq-eqb _ _ f.config, eq-eqb _ _ f.cells, eq-eqb _ _ f.marks, eq-eqb _ _ f.src_a, eq-eqb _ _ f.src_b)

-- ---- ranges
pub record RangeFacts (k : Stores) : Type 0 where
  pub gprs : all_at_most word_most k.gprs ≡ true
  pub config : all_at_most word_most k.config ≡ true
  pub cells : all_at_most half_most k.dest.cells ≡ true
  pub src_a : all_at_most cell_most k.src_a ≡ true
  pub src_b : all_at_most cell_most k.src_b ≡ true

pub range_facts : (k : Stores) → stores_formed k ≡ true → RangeFacts k
unfolding stores_formed
range_facts k h =
    let g = all_at_most word_most k.gprs in
    let f = all_at_most word_most k.config in
    let d = all_at_most half_most k.dest.cells in
    let a = all_at_most cell_most k.src_a in
    let b = all_at_most cell_most k.src_b in
    let words = and_left (g && f) (d && (a && b)) h in
    let rest = and_right (g && f) (d && (a && b)) h in
    let sources = and_right d (a && b) rest in
    record { gprs = and_left g f words; config = and_right g f words; cells = and_left d (a && b) rest; src_a = and_left a b sources; src_b = and_right a b sources }

pub facts_formed : (k : Stores) → RangeFacts k → stores_formed k ≡ true
unfolding stores_formed
facts_formed k r = rw (r.gprs, r.config, r.cells, r.src_a, r.src_b)
