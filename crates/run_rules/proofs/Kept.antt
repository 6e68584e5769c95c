-- What turns and runs leave as it is.
use Prim.Native.Nat.{ℕ, zero, suc}
use mathlib.Core.Path.{◌≡◌, refl, sym, ap, ◌∙◌}
use mathlib.Core.Bool.{Bool, true, false, cond}
use mathlib.Core.List.{List}
use native.Mathlib.Omega.{arith}
use lib.Dec.{leb, eqb}
use Rattle.machine.specs.Machine.{Machine}
use Rattle.machine.specs.Formed.{well_formed}
use Rattle.machine.specs.Answers.{Told, accepted, refused}
use Rattle.machine.specs.Outcomes.{Progress, idle, passed, stalled, has_passed}
use Rattle.run_order.specs.declared.cursor.Cursor.{Cursor}
use Rattle.std.specs.Prelude.{Option, Some, None}
use Rattle.run_order.specs.Cursor.{Streams, used_up, next_word, onward_of, moved_of}
use Rattle.run_order.specs.Ending.{halt_of, refused_word, quiet_after, RunEnd, Halted, halts, goes_on, finished, stuck, budget_used}
use Rattle.run_rules.specs.Run.{by_word, turn_of, Run, stop, before, unless, run_from, run_of}
use Rattle.run_rules.specs.Checks.{call_check, call_halt}
use Rattle.run_rules.specs.Ready.{Ready}
use Rattle.run_rules.specs.StuckForGood.{SamePositions}
use Rattle.run_rules.specs.Kept.{QuietTurn, RunKeeps}
use Rattle.run_rules.proofs.Calls.{call_checked}
use Rattle.run_rules.proofs.Turning.{turn_ready}
use Rattle.run_rules.proofs.Waiting.{turn_keeps}

moved_positions : (o : Told Progress) (c : Cursor) → has_passed o ≡ false → SamePositions (moved_of o c) c
unfolding moved_of onward_of
moved_positions (accepted idle) c h = record { at0 = refl; at1 = refl; at2 = refl }
moved_positions (accepted passed) c h = let z : ◌≡◌ {A = ℕ} 0 1 = cc in absurd (omega arith)
moved_positions (accepted (stalled k cause)) c h = record { at0 = refl; at1 = refl; at2 = refl }
moved_positions (refused n vs) c h = record { at0 = refl; at1 = refl; at2 = refl }

turn_positions : (s : Streams) (m : Machine) (c : Cursor) → has_passed (turn_of s m c).outcome ≡ false → SamePositions (turn_of s m c).cursor c
unfolding turn_of
turn_positions s m c h = go (next_word s c) h
  where
    go : (o : Option ℕ) → has_passed (by_word m c o).outcome ≡ false → SamePositions (by_word m c o).cursor c
    go None e = moved_positions (accepted idle) c refl
    go (Some w) e = moved_positions _ c e

quiet_turn : (s : Streams) (m : Machine) (c : Cursor) → has_passed (turn_of s m c).outcome ≡ false → QuietTurn s m c
quiet_turn s m c h = record { after = turn_keeps s m c h; positions = turn_positions s m c h }

-- an answer of the run's own, and not of the call's checks
abbrev own : Told RunEnd → Bool
own (accepted e) = true
own (refused n vs) = false

abbrev OwnHalt : Halted → Type 0
OwnHalt (halts a) = own a ≡ true
OwnHalt goes_on = Unit

halt_own : (s : Streams) (c : Cursor) (quiet left : ℕ) → OwnHalt (halt_of s c quiet left)
unfolding halt_of
halt_own s c quiet left = go (used_up s c) (leb 3 quiet) (eqb left 0)
  where
    go : (x y z : Bool) → OwnHalt (cond x (halts (accepted finished)) (cond y (halts (accepted stuck)) (cond z (halts (accepted budget_used)) goes_on)))
    go true y z = refl
    go false true z = refl
    go false false true = refl
    go false false false = tt

refused_own : (o : Told Progress) → OwnHalt (refused_word o)
unfolding refused_word
refused_own (accepted idle) = tt
refused_own (accepted passed) = tt
refused_own (accepted (stalled k cause)) = tt
refused_own (refused n vs) = refl

unless_own : (h : Halted) (m : Machine) (c : Cursor) (r : Run) → OwnHalt h → own r.answer ≡ true → own (unless h m c r).answer ≡ true
unless_own (halts a) m c r x e = x
unless_own goes_on m c r x e = e

from_own : (left : ℕ) (s : Streams) (quiet : ℕ) (m : Machine) (c : Cursor) → own (run_from left s quiet m c).answer ≡ true
unfolding run_from
from_own zero s quiet m c = unless_own (halt_of s c quiet zero) m c (stop (accepted budget_used) m c) (halt_own s c quiet zero) refl
from_own (suc left) s quiet m c =
    let t = turn_of s m c in
    let rest = run_from left s (quiet_after t.outcome quiet) t.after t.cursor in
    let later = unless_own (refused_word t.outcome) t.after t.cursor rest (refused_own t.outcome) (from_own left s (quiet_after t.outcome quiet) t.after t.cursor) in
    unless_own (halt_of s c quiet (suc left)) m c (before t (unless (refused_word t.outcome) t.after t.cursor rest)) (halt_own s c quiet (suc left)) later

not_own : (a : Told RunEnd) (n : ℕ) (vs : List ℕ) → own a ≡ true → a ≡ refused n vs → ⊥
not_own a n vs h e = let z : ◌≡◌ {A = Bool} true false = sym h ∙ ap own e in let k : ◌≡◌ {A = ℕ} 0 1 = ap (λ (b : Bool). cond b 0 1) z in omega arith

call_unchanged : (s : Streams) (m : Machine) (c : Cursor) (budget n : ℕ) (vs : List ℕ) →
    (run_of s m c budget).answer ≡ refused n vs → run_of s m c budget ≡ stop (refused n vs) m c
unfolding run_of
call_unchanged s m c budget n vs e = go (call_halt (call_check s m c budget)) e
  where
    go : (h : Halted) → (unless h m c (run_from budget s 0 m c)).answer ≡ refused n vs → unless h m c (run_from budget s 0 m c) ≡ stop (refused n vs) m c
    go (halts a) x = ap (λ (b : Told RunEnd). stop b m c) x
    go goes_on x = absurd (not_own (run_from budget s 0 m c).answer n vs (from_own budget s 0 m c) x)

module _ (s : Streams) where
  unless_ready : (h : Halted) (m : Machine) (c : Cursor) (r : Run) → Ready s m c → Ready s r.after r.cursor → Ready s (unless h m c r).after (unless h m c r).cursor
  unless_ready (halts a) m c r x y = x
  unless_ready goes_on m c r x y = y

  from_ready : (left quiet : ℕ) (m : Machine) (c : Cursor) → Ready s m c → Ready s (run_from left s quiet m c).after (run_from left s quiet m c).cursor
  unfolding run_from
  from_ready zero quiet m c x = unless_ready (halt_of s c quiet zero) m c (stop (accepted budget_used) m c) x x
  from_ready (suc left) quiet m c x =
      let t = turn_of s m c in
      let y = turn_ready s m c x in
      let rest = run_from left s (quiet_after t.outcome quiet) t.after t.cursor in
      let later = unless_ready (refused_word t.outcome) t.after t.cursor rest y (from_ready left (quiet_after t.outcome quiet) t.after t.cursor y) in
      unless_ready (halt_of s c quiet (suc left)) m c (before t (unless (refused_word t.outcome) t.after t.cursor rest)) x later

run_formed : (s : Streams) (m : Machine) (c : Cursor) (budget : ℕ) → well_formed m ≡ true → well_formed (run_of s m c budget).after ≡ true
unfolding run_of
run_formed s m c budget f = go (call_halt (call_check s m c budget)) refl
  where
    go : (h : Halted) → call_halt (call_check s m c budget) ≡ h → well_formed (unless h m c (run_from budget s 0 m c)).after ≡ true
    go (halts a) e = f
    go goes_on e = (from_ready s budget 0 m c (call_checked s m c budget e).ready).whole

pub run_keeps : RunKeeps
run_keeps = record { quiet = quiet_turn; refused_call = call_unchanged; formed = run_formed }
