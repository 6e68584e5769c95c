-- A word keeps a well-formed machine well formed.
use Prim.Native.Nat.{ℕ, ◌<◌}
use mathlib.Core.Path.{◌≡◌, refl}
use mathlib.Core.Bool.{true, ◌&&◌}
use lib.Dec.{eqb}
use lib.ListN.{length}
use Rattle.bits.specs.Ranges.{all_at_most}
use Rattle.bits.proofs.Choices.{and_left, and_right}
use Rattle.machine.specs.Sizes.{setting_count, half_most}
use Rattle.machine.specs.Machine.{Machine}
use Rattle.machine.specs.Formed.{sized, formed, well_formed, control_formed, stores_sized, stores_formed}
use Rattle.machine.specs.Answers.{Told, accepted, refused}
use Rattle.word_rules.specs.declared.instruction.Instruction.{Instruction}
use Rattle.word_rules.specs.Table.{decode_of}
use Rattle.word_rules.specs.InRange.{InRange, DecodedInRange}
use Rattle.word_rules.proofs.Saying.{decode_in_range}
use Rattle.word_rules.specs.Waits.{Gate, Open, Closed, gate_of}
use Rattle.machine.specs.Control.{matrix_bank}
use Rattle.word_rules.proofs.ControlKeeps.{control_after_formed}
use Rattle.word_rules.specs.After.{settings_after}
use Rattle.word_rules.proofs.StoresKeep.{settings_long, settings_range, stores_sized_lem, stores_formed_lem}
use Rattle.step_rules.specs.Step.{machine_after, by_gate, gated_of, by_decoded, offer_of, check_of, by_check, step_of}
use Rattle.step_rules.specs.Kept.{KeepsFormed}
use Rattle.step_rules.proofs.Ways.{accepted_shows}

passed_kept : (m : Machine) (t : ℕ) (i : Instruction) → t < 3 → InRange i → well_formed m ≡ true → well_formed (machine_after m t i) ≡ true
unfolding machine_after
passed_kept m t i h r e =
    let a = matrix_bank m.control 0 in
    let b = matrix_bank m.control 1 in
    let hs = and_left (sized m) (formed m) e in
    let hf = and_right (sized m) (formed m) e in
    let ls = and_left (eqb (length m.settings) setting_count) (stores_sized m.kept) hs in
    let ks = and_right (eqb (length m.settings) setting_count) (stores_sized m.kept) hs in
    let rest = all_at_most half_most m.settings && stores_formed m.kept in
    let hc = and_left (control_formed m.control) rest hf in
    let hr = and_right (control_formed m.control) rest hf in
    let rs = and_left (all_at_most half_most m.settings) (stores_formed m.kept) hr in
    let ks' = and_right (all_at_most half_most m.settings) (stores_formed m.kept) hr in
    let long : eqb (length (settings_after i t m.settings)) setting_count ≡ true = rw (settings_long i t m.settings) ls in
    rw (long, stores_sized_lem i t a b m.settings m.kept, ks, control_after_formed m.control t i h r hc, settings_range i t m.settings r rs, stores_formed_lem i t a b m.settings m.kept r ks')

gate_kept : (m : Machine) (t : ℕ) (i : Instruction) (g : Gate) → t < 3 → InRange i → well_formed m ≡ true → well_formed (by_gate m t i g).after ≡ true
gate_kept m t i Open h r e = passed_kept m t i h r e
gate_kept m t i (Closed k cause) h r e = e

decoded_kept : (m : Machine) (t : ℕ) (d : Told Instruction) → t < 3 → DecodedInRange d → well_formed m ≡ true → well_formed (by_decoded m t d).after ≡ true
unfolding gated_of
decoded_kept m t (accepted i) h r e = gate_kept m t i (gate_of m.control t i) h r e
decoded_kept m t (refused n vs) h r e = e

pub offer_kept : (m : Machine) (t w : ℕ) → t < 3 → well_formed m ≡ true → well_formed (offer_of m t w).after ≡ true
unfolding offer_of
offer_kept m t w h e = decoded_kept m t (decode_of w) h (decode_in_range w) e

check_kept : (m : Machine) (t w : ℕ) (k : Told (Unit {0})) → check_of m t ≡ k → well_formed m ≡ true → well_formed (by_check m t w k).after ≡ true
check_kept m t w (accepted u) x e = offer_kept m t w (accepted_shows m t u x).thread e
check_kept m t w (refused n vs) x e = e

pub keeps_formed : KeepsFormed
unfolding step_of
keeps_formed = record { offered = offer_kept; called = λ m t w e. check_kept m t w (check_of m t) refl e }
