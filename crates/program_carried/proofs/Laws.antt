-- Record 38 is a right format.
use Prim.Native.Nat.{ℕ, zero, suc, ◌+◌, ◌≤◌}
use mathlib.Core.Bool.{Bool, true, false, cond}
use mathlib.Core.Path.{◌≡◌, refl, ap}
use Rattle.std.specs.Prelude.{Option, Some, None}
use native.Mathlib.Omega.{arith}
use lib.Dec.{eqb, lit<}
use lib.ListN.{length}
use Rattle.bits.specs.Ranges.{all_at_most}
use Rattle.format.specs.Format.{num, both, numbers, most_after}
use Rattle.format.proofs.Fields.{after_kind_room}
use Rattle.format.proofs.Lawful.{Lawful, num_lawful, dep_lawful, both_lawful, numbers_lawful, via_lawful, kind_lawful, kind_ok, numbers_ok, whole_accepts, whole_get, whole_put}
use Rattle.machine.specs.Sizes.{half_most, word_most}
use Rattle.expander_rules.specs.Sizes.{slot_count}
use Rattle.expander_rules.specs.State.{carry}
use Rattle.expander_rules.specs.declared.Carried.{Carried}
use Rattle.expander_rules.specs.declared.Load.{Load}
use Rattle.program_carried.specs.CarriedFormat.{taking_bytes, kind_most, taking_numbers, load_numbers, load_from, numbers_of_load, load_format, carried_format, record_format, InBytes, CarriedRecords}

numbers_right : Lawful load_numbers
numbers_right = dep_lawful (num 1 0 kind_most) taking_numbers taking_bytes (num_lawful 1 0 kind_most (lit< tt) (lit< tt)) taking_right (λ k. refl)
  where
    taking_right : (k : ℕ) → Lawful (taking_numbers k)
    taking_right k =
        let word = num_lawful 4 0 (most_after k word_most) (lit< tt) (after_kind_room k word_most (word_most + 1) (lit< tt) (lit< tt)) in
        both_lawful _ _ word (both_lawful _ _ word (num_lawful 1 0 (most_after k 1) (lit< tt) (after_kind_room k 1 256 (lit< tt) (lit< tt))))

shown_there : (shown : Bool) → eqb (cond shown 1 0) 1 ≡ shown
shown_there true = refl
shown_there false = refl

load_there : (load : Option Load) → load_from (numbers_of_load load) ≡ load
unfolding load_from
load_there None = refl
load_there (Some load) = rw (shown_there load.shown)

shown_back_lem : (shown : ℕ) → shown ≤ 1 → cond (eqb shown 1) 1 0 ≡ shown
shown_back_lem zero h = refl
shown_back_lem (suc zero) h = refl
shown_back_lem (suc (suc n)) h = absurd (omega arith)

load_back : (k next left shown : ℕ) → load_numbers.Ok (k, (next, (left, shown))) → numbers_of_load (load_from (k, (next, (left, shown)))) ≡ (k, (next, (left, shown)))
unfolding load_from most_after
load_back zero next left shown ok =
    let a : 0 ≡ next = omega arith in
    let b : 0 ≡ left = omega arith in
    let d : 0 ≡ shown = omega arith in
    rw (← a, ← b, ← d)
load_back (suc zero) next left shown ok = ap (λ (x : ℕ). (1, (next, (left, x)))) (shown_back_lem shown ok.1.1.1.1)
load_back (suc (suc k)) next left shown ok = absurd (omega arith)

load_lawful : Lawful load_format
load_lawful =
    via_lawful load_from numbers_of_load load_numbers numbers_right load_there (λ t ok. load_back t.0 t.1.0 t.1.1.0 t.1.1.1 ok)

carried_lawful : Lawful carried_format
carried_lawful =
    via_lawful (λ t. carry t.0 t.1.0 t.1.1) (λ c. (c.high_mask, (c.slots, c.load)))
    (both (num 2 0 half_most) (both (numbers slot_count 4 word_most) load_format))
    (both_lawful _ _ (num_lawful 2 0 half_most (lit< tt) (lit< tt)) (both_lawful _ _ (numbers_lawful slot_count 4 word_most (lit< tt) (lit< tt)) load_lawful))
    (λ c. refl) (λ t ok. refl)

record_lawful : Lawful record_format
record_lawful = kind_lawful 38 carried_format (lit< tt) (lit< tt) carried_lawful

shown_small : (shown : Bool) → cond shown 1 0 ≤ 1
shown_small true = omega arith
shown_small false = omega arith

load_ok : (load : Option Load) → InBytes load → load_format.Ok load
unfolding most_after
load_ok None h = (tt, ((omega arith, omega arith), ((omega arith, omega arith), ((omega arith, omega arith), (omega arith, omega arith)))))
load_ok (Some load) h = (tt, ((omega arith, omega arith), ((omega arith, h.0), ((omega arith, h.1), (omega arith, shown_small load.shown)))))

carried_ok : (c : Carried) → c.high_mask ≤ half_most → length c.slots ≡ slot_count → all_at_most word_most c.slots ≡ true → InBytes c.load →
    carried_format.Ok c
carried_ok c mask long small load = (tt, ((omega arith, mask), (numbers_ok 4 word_most slot_count c.slots long small, load_ok c.load load)))

pub carried_records : CarriedRecords
carried_records =
    record {
      back = λ c mask long small load.
          let ok = kind_ok 38 carried_format c (carried_ok c mask long small load) in
          (whole_accepts record_format record_lawful c ok, whole_get record_format record_lawful c ok);
      own = whole_put record_format record_lawful;
    }
