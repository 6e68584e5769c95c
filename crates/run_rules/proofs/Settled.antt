-- Where a run ends stuck, no thread's word can pass: the last three turns, one a thread, were idle or stalled on the very machine
-- that is left, and the last stalls say so.
use Prim.Native.Nat.{ℕ, zero, suc, ◌<◌}
use mathlib.Core.Path.{◌≡◌, refl, ap}
use mathlib.Core.Bool.{Bool, true, false, cond}
use native.Mathlib.Omega.{arith}
use lib.Dec.{leb, eqb}
use borrow.Author.Tests.{leb-true}
use Rattle.machine.specs.Machine.{Machine}
use Rattle.machine.specs.Answers.{Told, accepted, refused}
use Rattle.machine.specs.Outcomes.{Progress, idle, passed, stalled}
use Rattle.run_order.specs.declared.cursor.Cursor.{Cursor}
use Rattle.run_order.specs.Cursor.{Streams, used_up}
use Rattle.run_order.specs.Stalls.{Stalls, no_stalls, stall_of, stalls_after}
use Rattle.run_order.specs.Ending.{halt_of, refused_word, quiet_after, Halted, halts, goes_on, finished, stuck, budget_used}
use Rattle.run_rules.specs.Run.{turn_of, Run, stop, unless, run_from, run_of, stalls_left}
use Rattle.run_rules.specs.Checks.{call_check, call_halt}
use Rattle.run_rules.specs.Ready.{Ready}
use Rattle.run_rules.specs.StuckSays.{word_of, Says}
use Rattle.run_rules.proofs.Calls.{call_checked}
use Rattle.run_rules.proofs.Turning.{turn_ready}
use Rattle.run_rules.proofs.Waiting.{Waits}
use Rattle.run_rules.proofs.Saying.{says_waits, Said, said_start, said_three, said_turn}

pub record Settled (s : Streams) (m : Machine) (c : Cursor) (l : Stalls) : Type 0 where
  pub ready : Ready s m c
  pub words : used_up s c ≡ false
  pub says : (t : ℕ) → t < 3 → Says m t (word_of s c t) (stall_of l t)

pub settled_waits : {s : Streams} {m : Machine} {c : Cursor} {l : Stalls} → Settled s m c l → Waits s m c
settled_waits {s} {m} {c} {l} x = says_waits s m c (stall_of l c.next) (x.says c.next x.ready.within.thread)

stuck_halt : (s : Streams) (m : Machine) (c : Cursor) (l : Stalls) (quiet left : ℕ) → Ready s m c → Said s m c l quiet → halt_of s c quiet left ≡ halts (accepted stuck) → Settled s m c l
unfolding halt_of
stuck_halt s m c l quiet left r said e = go (used_up s c) (leb 3 quiet) (eqb left 0) refl refl e
  where
    go : (x y z : Bool) → used_up s c ≡ x → leb 3 quiet ≡ y →
        cond x (halts (accepted finished)) (cond y (halts (accepted stuck)) (cond z (halts (accepted budget_used)) goes_on)) ≡ halts (accepted stuck) → Settled s m c l
    go true y z ex ey h = let n : ◌≡◌ {A = ℕ} 0 1 = cc in absurd (omega arith)
    go false true z ex ey h = record { ready = r; words = ex; says = said_three s m c l quiet said (leb-true 3 quiet ey) }
    go false false true ex ey h = let n : ◌≡◌ {A = ℕ} 0 1 = cc in absurd (omega arith)
    go false false false ex ey h = let n : ◌≡◌ {A = ℕ} 0 1 = cc in absurd (omega arith)

-- a run from cursor c, where l were the last stalls before it
abbrev Settles : Streams → Cursor → Stalls → Run → Type 0
Settles s c l r = r.answer ≡ accepted stuck → Settled s r.after r.cursor (stalls_left c r.turns l)

unless_settles : (s : Streams) (h : Halted) (m : Machine) (c : Cursor) (l : Stalls) (r : Run) →
    (h ≡ halts (accepted stuck) → Settled s m c l) → (h ≡ goes_on → Settles s c l r) → Settles s c l (unless h m c r)
unless_settles s (halts a) m c l r p q e = p (ap halts e)
unless_settles s goes_on m c l r p q e = q refl e

-- neither a refused word nor a refused call is a stuck end
word_not_stuck : (o : Told Progress) → refused_word o ≡ halts (accepted stuck) → ⊥
unfolding refused_word
word_not_stuck (accepted idle) e = let z : ◌≡◌ {A = ℕ} 0 1 = cc in omega arith
word_not_stuck (accepted passed) e = let z : ◌≡◌ {A = ℕ} 0 1 = cc in omega arith
word_not_stuck (accepted (stalled k cause)) e = let z : ◌≡◌ {A = ℕ} 0 1 = cc in omega arith
word_not_stuck (refused n vs) e = let z : ◌≡◌ {A = ℕ} 0 1 = cc in omega arith

call_not_stuck : (x : Told (Unit {0})) → call_halt x ≡ halts (accepted stuck) → ⊥
call_not_stuck (accepted u) e = let z : ◌≡◌ {A = ℕ} 0 1 = cc in omega arith
call_not_stuck (refused n vs) e = let z : ◌≡◌ {A = ℕ} 0 1 = cc in omega arith

from_settles : (left : ℕ) (s : Streams) (quiet : ℕ) (m : Machine) (c : Cursor) (l : Stalls) → Ready s m c → Said s m c l quiet → Settles s c l (run_from left s quiet m c)
unfolding run_from
from_settles zero s quiet m c l r x =
    unless_settles s (halt_of s c quiet zero) m c l (stop (accepted budget_used) m c) (stuck_halt s m c l quiet zero r x)
    (λ y e. let z : ◌≡◌ {A = ℕ} 0 1 = cc in absurd (omega arith))
from_settles (suc left) s quiet m c l r x =
    let t = turn_of s m c in
    let q = quiet_after t.outcome quiet in
    let k = stalls_after t.outcome c.next l in
    let tail = unless_settles s (refused_word t.outcome) t.after t.cursor k (run_from left s q t.after t.cursor)
    (λ e. absurd (word_not_stuck t.outcome e))
    (λ on. from_settles left s q t.after t.cursor k (turn_ready s m c r) (said_turn s m c l quiet r.within.thread x on)) in
    unless_settles s (halt_of s c quiet (suc left)) m c l _ (stuck_halt s m c l quiet (suc left) r x) (λ y. tail)

pub run_settles : (s : Streams) (m : Machine) (c : Cursor) (budget : ℕ) → Settles s c no_stalls (run_of s m c budget)
unfolding run_of
run_settles s m c budget =
    unless_settles s (call_halt (call_check s m c budget)) m c no_stalls (run_from budget s 0 m c) (λ e. absurd (call_not_stuck (call_check s m c budget) e))
    (λ on. from_settles budget s 0 m c no_stalls (call_checked s m c budget on).ready (said_start s m c))
