-- A word offered to a machine of the same parts.
use Prim.Native.Nat.{ℕ}
use mathlib.Core.Path.{◌≡◌}
use mathlib.Core.Bool.{Bool}
use mathlib.Core.List.{List}
use Rattle.machine.specs.declared.control.Control.{Control}
use Rattle.machine.specs.Machine.{machine}
use Rattle.step_rules.specs.Step.{offer_of}

pub same_offer : (c : Control) (d : List ℕ) {s s' g g' k k' a a' b b' : List ℕ} {v v' : List Bool} {t t' : ℕ} (w : ℕ) → t ≡ t' → s ≡ s' → g ≡ g' → k ≡ k' → v ≡ v' → a ≡ a' → b ≡ b' →
    offer_of (machine c s g k d v a b) t w ≡ offer_of (machine c s' g' k' d v' a' b') t' w
same_offer c d w et es eg ek ev ea eb = rw (et, es, eg, ek, ev, ea, eb)
