-- A run of fewer turns takes the first of them.
use Prim.Native.Nat.{ℕ, zero, suc, ◌≤◌}
use mathlib.Core.Path.{◌≡◌, refl, ap, ◌∙◌}
use mathlib.Core.List.{List, [], ◌∷◌}
use native.Mathlib.Omega.{arith}
use lib.Dec.{eqb-suc-zero}
use lib.ListN.{length, take}
use Rattle.machine.specs.Machine.{Machine}
use Rattle.machine.specs.Answers.{accepted}
use Rattle.run_order.specs.declared.cursor.Cursor.{Cursor}
use Rattle.run_order.specs.Ending.{Halted, halts, goes_on, budget_used, halt_of, refused_word, quiet_after}
use Rattle.run_order.specs.Cursor.{Streams}
use Rattle.run_rules.specs.Run.{Turn, turn_of, Run, stop, before, unless, run_from, run_of}
use Rattle.run_rules.specs.Checks.{call_check, call_halt}
use Rattle.run_rules.specs.Observed.{machine_left, cursor_left, Observed}
use Rattle.run_rules.proofs.Calls.{call_checked, ready_call}
use Rattle.run_rules.proofs.Chained.{chained, from_few, leads_machine, leads_cursor}

-- a run that ends where it stands has no turns
none : (h : Halted) (m : Machine) (c : Cursor) (r : Run) → r.turns ≡ [] → (unless h m c r).turns ≡ []
none (halts a) m c r e = refl
none goes_on m c r e = e

-- two runs that are ended by the same, or go on with the same first turns
same_start : (h : Halted) (m : Machine) (c : Cursor) (k : ℕ) (p q : Run) → k ≤ length (unless h m c q).turns →
    (k ≤ length q.turns → p.turns ≡ take k q.turns) → (unless h m c p).turns ≡ take k (unless h m c q).turns
same_start (halts a) m c zero p q l f = refl
same_start (halts a) m c (suc k) p q l f = absurd (omega arith)
same_start goes_on m c k p q l f = f l

-- what ends a run before a turn does not ask how many turns are left, as long as there are some
some_left : (s : Streams) (c : Cursor) (quiet a b : ℕ) → halt_of s c quiet (suc a) ≡ halt_of s c quiet (suc b)
unfolding halt_of
some_left s c quiet a b = rw (eqb-suc-zero a, eqb-suc-zero b)

from_start : (k left : ℕ) (s : Streams) (quiet : ℕ) (m : Machine) (c : Cursor) → k ≤ length (run_from left s quiet m c).turns →
    (run_from k s quiet m c).turns ≡ take k (run_from left s quiet m c).turns
unfolding run_from
from_start zero left s quiet m c l = none (halt_of s c quiet zero) m c (stop (accepted budget_used) m c) refl
from_start (suc k) zero s quiet m c l = absurd (omega (arith, l, from_few zero s quiet m c))
from_start (suc k) (suc left) s quiet m c l =
    let t = turn_of s m c in
    let q = quiet_after t.outcome quiet in
    let short = run_from k s q t.after t.cursor in
    let long = run_from left s q t.after t.cursor in
    let word = refused_word t.outcome in
    let after : Run → Run = λ r. before t (unless word t.after t.cursor r) in
    rw (some_left s c quiet k left)
    (same_start (halt_of s c quiet (suc left)) m c (suc k) (after short) (after long) l
    (λ n. ap (λ (x : List Turn). t ∷ x) (same_start word t.after t.cursor k short long (omega (arith, n)) (λ o. from_start k left s q t.after t.cursor o))))

-- a refused call took no turn, and a call that is not refused is not refused with a smaller budget
call_start : (s : Streams) (m : Machine) (c : Cursor) (budget k : ℕ) → k ≤ length (run_of s m c budget).turns →
    (run_of s m c k).turns ≡ take k (run_of s m c budget).turns
unfolding run_of
call_start s m c budget k l = go (call_halt (call_check s m c budget)) refl l
  where
    go : (h : Halted) → call_halt (call_check s m c budget) ≡ h → k ≤ length (unless h m c (run_from budget s 0 m c)).turns →
        (unless (call_halt (call_check s m c k)) m c (run_from k s 0 m c)).turns ≡ take k (unless h m c (run_from budget s 0 m c)).turns
    go (halts a) e n =
        let z : k ≡ 0 = omega (arith, n) in
        rw z (none (call_halt (call_check s m c 0)) m c (run_from 0 s 0 m c) (from_start 0 0 s 0 m c (omega arith)))
    go goes_on e n =
        let x = call_checked s m c budget e in
        rw (ready_call s m c k x.ready (omega (arith, n, from_few budget s 0 m c, x.few))) (from_start k budget s 0 m c n)

pub observed : Observed
observed s m c budget k l =
    let r = run_of s m c k in
    let e = call_start s m c budget k l in
    let chain = chained.each s m c k in
    record {
      turns_taken = e;
      after = leads_machine s r.after r.cursor m c r.turns chain ∙ ap (machine_left m) e;
      cursor = leads_cursor s r.after r.cursor m c r.turns chain ∙ ap (cursor_left c) e;
    }
