-- Modes 2 and 3: half of a view is half of storage and all of it is all, in either view and in every setting.
use Prim.Native.Nat.{ℕ, zero, suc, ◌+◌, ◌*◌, ◌/◌, ◌≤◌, ◌<◌}
use mathlib.Core.Path.{◌≡◌, refl, sym, ap, ◌∙◌}
use mathlib.Core.Bool.{Bool, true, false, cond}
use mathlib.Core.List.{List, [], ◌∷◌}
use mathlib.Core.Logic.{◌⊎◌, inl, inr, ⊎_elim}
use native.Mathlib.Decide.{dec_lt}
use native.Mathlib.Omega.{arith}
use lib.Dec.{eqb}
use lib.ListN.{length, set, get_or, replicate, length-set, length-replicate}
use lib.Seq.{ext_get_or}
use borrow.Author.Tests.{eqb-true, ne_eqb}
use Rattle.bits.specs.Overwrite.{over}
use Rattle.bits.proofs.Overwrite.{over_none, over_set, over_over, over_whole}
use Rattle.dest.specs.declared.flags.Flags.{Flags}
use Rattle.dest.specs.declared.rows.StorageRow.{StorageRow}
use Rattle.dest.specs.Rows.{storage_row, view16, view32}
use Rattle.dest.specs.Flags.{flags}
use Rattle.dest.specs.Maps.{storage16, high32, low32}
use Rattle.dest.proofs.Covering.{views_cover}
use Rattle.dest.proofs.Halves.{storage16_half, halves32}
use Rattle.machine.specs.Sizes.{mark_count}
use Rattle.word_rules.specs.Marks.{view_rows, clear_row, clear_rows, LiesIn}
use Rattle.word_rules.specs.InRange.{PlaceInView}
use Rattle.word_rules.specs.CellWords.{first_row, row_count, flags_in, after_zero_acc}
use Rattle.word_rules.proofs.MarkLaws.{rows_cleared, clear_long}

-- the n view rows from the first on lie in the m storage rows from `from` on, and no other row of the view does
record SameRows (wide : Bool) (f : Flags) (first n from m : ℕ) : Type 0 where
  there : (row q : ℕ) → first ≤ row → row < first + n → LiesIn wide f row q → (from ≤ q) × (q < from + m)
  back : (row q : ℕ) → row < view_rows wide → LiesIn wide f row q → from ≤ q → q < from + m → (first ≤ row) × (row < first + n)

-- a row of the view that lies in storage row q
record Found (wide : Bool) (f : Flags) (q : ℕ) : Type 0 where
  row : ℕ
  within : row < view_rows wide
  lies : LiesIn wide f row q

either_half : (b : Bool) (low high : StorageRow) (q : ℕ) → cond b low high ≡ storage_row q → (q ≡ high.0) ⊎ (q ≡ low.0)
either_half true low high q e = inr (sym (ap (λ (p : StorageRow). p.0) e))
either_half false low high q e = inl (sym (ap (λ (p : StorageRow). p.0) e))

found : (wide : Bool) (f : Flags) (q : ℕ) → q < mark_count → Found wide f q
found true f q h =
    let o = (views_cover.view32 f).once (storage_row q) h in
    let p = o.place in
    record { row = p.row.0; within = o.within; lies = either_half p.low (low32 f p.row) (high32 f p.row) q o.there }
found false f q h =
    let o = (views_cover.view16 f).once (storage_row q) h in
    record { row = o.place.0; within = o.within; lies = sym (ap (λ (p : StorageRow). p.0) o.there) }

-- by the map of no flag a storage row is a row of the 16-bit view
abbrev unmapped : Flags
unmapped = flags false false

module _ (wide : Bool) (f : Flags) (first n from m : ℕ) (same : SameRows wide f first n from m) (marks : List Bool) where
  abbrev mapped : List Bool
  mapped = clear_rows wide f first n marks

  abbrev plain : List Bool
  plain = clear_rows false unmapped from m marks

  mark_within : (q : ℕ) → q < mark_count → from ≤ q → q < from + m → get_or mapped q false ≡ get_or plain q false
  unfolding storage16
  mark_within q h i j =
      let o = found wide f q h in
      let p = same.back o.row q o.within o.lies i j in
      (rows_cleared wide f first n marks).cleared o.row q p.0 p.1 o.lies ∙ sym ((rows_cleared false unmapped from m marks).cleared q q i j refl)

  mark_outside : (q : ℕ) → (from ≤ q → q < from + m → ⊥) → get_or mapped q false ≡ get_or plain q false
  unfolding storage16
  mark_outside q o =
      (rows_cleared wide f first n marks).kept q (λ row i j l. let p = same.there row q i j l in o p.0 p.1)
      ∙ sym ((rows_cleared false unmapped from m marks).kept q (λ row i j l. o (rw l i) (rw l j)))

  -- view rows that lie in a run of storage rows clear just that run
  run_cleared : length marks ≡ mark_count → mapped ≡ plain
  run_cleared h =
      let e = clear_long wide f first n marks in
      ext_get_or false mapped plain (e ∙ sym (clear_long false unmapped from m marks))
      (λ q l. elim (dec_lt q from) [
        | yes i ↦ mark_outside q (λ j k. omega (arith, i))
        | no i ↦ elim (dec_lt q (from + m)) [ yes j ↦ mark_within q (omega arith) (omega (arith, i)) j | no j ↦ mark_outside q (λ k l. j l) ]
      ])

-- a view row lies in its own half of storage
in_half : (wide : Bool) (f : Flags) (row q : ℕ) → row < view_rows wide → LiesIn wide f row q → q / 512 ≡ row / (view_rows wide / 2)
in_half true f row q h l = let p = halves32 f (view32 row) h in ⊎_elim (λ e. rw e p.0) (λ e. rw e p.1) l
in_half false f row q h l = rw l (storage16_half f (view16 row))

half_same : (wide : Bool) (f : Flags) (place : ℕ) → place < 2 → SameRows wide f (view_rows wide / 2 * place) (view_rows wide / 2) (512 * place) 512
half_same true f place h =
    record {
      there = λ row q i j l. let e = in_half true f row q (omega arith) l in (omega arith, omega arith);
      back = λ row q k l i j. let e = in_half true f row q k l in (omega arith, omega arith);
    }
half_same false f place h =
    record {
      there = λ row q i j l. let e = in_half false f row q (omega arith) l in (omega arith, omega arith);
      back = λ row q k l i j. let e = in_half false f row q k l in (omega arith, omega arith);
    }

in_storage : (wide : Bool) (f : Flags) (row q : ℕ) → row < view_rows wide → LiesIn wide f row q → q < mark_count
in_storage true f row q h l = omega (arith, in_half true f row q h l)
in_storage false f row q h l = omega (arith, in_half false f row q h l)

all_same : (wide : Bool) (f : Flags) → SameRows wide f 0 (view_rows wide) 0 mark_count
all_same wide f =
    record {
      there = λ row q i j l. (omega arith, in_storage wide f row q (omega arith) l);
      back = λ row q k l i j. (omega arith, omega arith);
    }

part_same : (half wide : Bool) (f : Flags) (place : ℕ) → (half ≡ true → place < 2) →
    SameRows wide f (cond half (view_rows wide / 2 * place) 0) (cond half (view_rows wide / 2) (view_rows wide)) (cond half (512 * place) 0) (cond half 512 mark_count)
part_same true wide f place h = half_same wide f place (h refl)
part_same false wide f place h = all_same wide f

pub in_either_view : {mode : ℕ} {wide : Bool} {place : ℕ} → 2 ≤ mode → PlaceInView mode wide place → PlaceInView mode false place
in_either_view h p = record { row = λ e. absurd (omega arith); sixteen = λ e. absurd (omega arith); half = p.half }

filled : (from m : ℕ) (marks : List Bool) → from + m ≤ length marks → clear_rows false unmapped from m marks ≡ over marks from (replicate m false)
unfolding clear_rows clear_row storage16
filled from zero marks h = sym (over_none marks from)
filled from (suc m) marks h =
    filled (from + 1) m (set marks from false) (rw length-set (omega arith))
    ∙ rw (over_set marks from false (omega arith)) (over_over marks from (false ∷ []) (replicate m false) (omega arith))

module _ (bank : ℕ) (config : List ℕ) (marks : List Bool) {mode : ℕ} {wide : Bool} {place : ℕ} (p : PlaceInView mode wide place) (long : length marks ≡ mark_count) where
  -- half of either view, and all of it, is a run of storage rows
  pub part_filled : 2 ≤ mode → first_row mode false place + row_count mode false ≤ mark_count →
      after_zero_acc bank mode wide place config marks ≡ over marks (first_row mode false place) (replicate (row_count mode false) false)
  part_filled h room =
      let z = ne_eqb mode 0 (λ e. omega arith) in
      let o = ne_eqb mode 1 (λ e. omega arith) in
      let same = part_same (eqb mode 2) wide (flags_in bank config) place (λ e. p.half (eqb-true mode 2 e)) in
      let plain = filled (first_row mode false place) (row_count mode false) marks (omega arith) in
      rw (z, o) (run_cleared wide (flags_in bank config) _ _ _ _ same marks long) ∙ plain

  pub mode_2_clears_half : mode ≡ 2 → after_zero_acc bank mode wide place config marks ≡ over marks (512 * place) (replicate 512 false)
  mode_2_clears_half e = part_filled (omega arith) (rw e (omega (arith, p.half e))) ∙ rw e

  pub mode_3_clears_all : mode ≡ 3 → after_zero_acc bank mode wide place config marks ≡ replicate mark_count false
  mode_3_clears_all e =
      part_filled (omega arith) (rw e (omega arith))
      ∙ rw e (over_whole marks (replicate mark_count false) (rw length-replicate (omega arith)))
