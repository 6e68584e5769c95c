-- A word that does not pass changes nothing: by the ways that it can go.
use Prim.Native.Nat.{ℕ}
use mathlib.Core.Path.{◌≡◌, refl}
use mathlib.Core.Bool.{false}
use native.Mathlib.Omega.{arith}
use Rattle.machine.specs.Machine.{Machine}
use Rattle.machine.specs.Answers.{Told, accepted, refused}
use Rattle.word_rules.specs.declared.instruction.Instruction.{Instruction}
use Rattle.word_rules.specs.Table.{decode_of}
use Rattle.word_rules.specs.Waits.{Gate, Open, Closed, gate_of}
use Rattle.machine.specs.Outcomes.{has_passed}
use Rattle.step_rules.specs.Step.{by_gate, gated_of, by_decoded, offer_of, check_of, by_check, step_of}
use Rattle.step_rules.specs.Unchanged.{Unchanged}

module _ (m : Machine) (t : ℕ) where
  gated : (i : Instruction) (g : Gate) → has_passed (by_gate m t i g).outcome ≡ false → (by_gate m t i g).after ≡ m
  gated i Open h = let z : ◌≡◌ {A = ℕ} 0 1 = cc in absurd (omega arith)
  gated i (Closed k cause) h = refl

  decoded : (d : Told Instruction) → has_passed (by_decoded m t d).outcome ≡ false → (by_decoded m t d).after ≡ m
  unfolding gated_of
  decoded (accepted i) h = gated i (gate_of m.control t i) h
  decoded (refused n vs) h = refl

  pub offer_unchanged : (w : ℕ) → has_passed (offer_of m t w).outcome ≡ false → (offer_of m t w).after ≡ m
  unfolding offer_of
  offer_unchanged w h = decoded (decode_of w) h

  checked : (w : ℕ) (k : Told (Unit {0})) → has_passed (by_check m t w k).outcome ≡ false → (by_check m t w k).after ≡ m
  checked w (accepted u) h = offer_unchanged w h
  checked w (refused n vs) h = refl

  step_unchanged : (w : ℕ) → has_passed (step_of m t w).outcome ≡ false → (step_of m t w).after ≡ m
  unfolding step_of
  step_unchanged w h = checked w (check_of m t) h

pub unchanged : Unchanged
unchanged = record { offered = offer_unchanged; called = step_unchanged }
