-- Each turn goes on from what the one before left.
use Prim.Native.Nat.{ℕ, zero, suc, ◌≤◌}
use mathlib.Core.Path.{◌≡◌, refl}
use mathlib.Core.List.{List, [], ◌∷◌, ◌++◌}
use native.Mathlib.Omega.{arith}
use lib.ListN.{length}
use Rattle.machine.specs.Machine.{Machine}
use Rattle.machine.specs.Answers.{accepted}
use Rattle.run_order.specs.declared.cursor.Cursor.{Cursor}
use Rattle.run_order.specs.Ending.{Halted, halts, goes_on, budget_used, halt_of, refused_word, quiet_after}
use Rattle.run_order.specs.Cursor.{Streams}
use Rattle.run_rules.specs.Run.{Turn, turn_of, Run, stop, before, unless, run_from, run_of}
use Rattle.run_rules.specs.Checks.{call_check, call_halt}
use Rattle.run_rules.specs.Chained.{Leads, Chain, Chained}
use Rattle.run_rules.specs.Observed.{machine_left, cursor_left}

-- a run of at most so many turns, from m and c
record Linked (s : Streams) (m : Machine) (c : Cursor) (left : ℕ) (r : Run) : Type 0 where
  chain : Chain s m c r
  few : length r.turns ≤ left

stop_linked : {s : Streams} {m : Machine} {c : Cursor} (left : ℕ) (r : Run) (h : Halted) → Linked s m c left r → Linked s m c left (unless h m c r)
stop_linked left r (halts a) x = record { chain = (refl, refl); few = omega arith }
stop_linked left r goes_on x = x

from_linked : (left : ℕ) (s : Streams) (quiet : ℕ) (m : Machine) (c : Cursor) → Linked s m c left (run_from left s quiet m c)
unfolding run_from
from_linked zero s quiet m c =
    stop_linked zero (stop (accepted budget_used) m c) (halt_of s c quiet zero) (record { chain = (refl, refl); few = omega arith })
from_linked (suc left) s quiet m c =
    let t = turn_of s m c in
    let rest = run_from left s (quiet_after t.outcome quiet) t.after t.cursor in
    let tail = unless (refused_word t.outcome) t.after t.cursor rest in
    let x = stop_linked left rest (refused_word t.outcome) (from_linked left s (quiet_after t.outcome quiet) t.after t.cursor) in
    stop_linked (suc left) (before t tail) (halt_of s c quiet (suc left)) (record { chain = (refl, x.chain); few = omega (arith, x.few) })

linked : (s : Streams) (m : Machine) (c : Cursor) (budget : ℕ) → Linked s m c budget (run_of s m c budget)
unfolding run_of
linked s m c budget = stop_linked budget (run_from budget s 0 m c) (call_halt (call_check s m c budget)) (from_linked budget s 0 m c)

pub from_few : (left : ℕ) (s : Streams) (quiet : ℕ) (m : Machine) (c : Cursor) → length (run_from left s quiet m c).turns ≤ left
from_few left s quiet m c = (from_linked left s quiet m c).few

pub chained : Chained
chained = record { each = λ s m c budget. (linked s m c budget).chain; within = λ s m c budget. (linked s m c budget).few }

module _ (s : Streams) (after : Machine) (end : Cursor) where
  -- where the turns of a chain lead
  pub leads_machine : (m : Machine) (c : Cursor) (turns : List Turn) → Leads s m c turns after end → after ≡ machine_left m turns
  leads_machine m c [] x = x.0
  leads_machine m c (t ∷ later) x = leads_machine t.after t.cursor later x.1

  pub leads_cursor : (m : Machine) (c : Cursor) (turns : List Turn) → Leads s m c turns after end → end ≡ cursor_left c turns
  leads_cursor m c [] x = x.1
  leads_cursor m c (t ∷ later) x = leads_cursor t.after t.cursor later x.1

  -- what is left of a chain after the first of its turns
  pub leads_on : (m : Machine) (c : Cursor) (first later : List Turn) → Leads s m c (first ++ later) after end →
      Leads s (machine_left m first) (cursor_left c first) later after end
  leads_on m c [] later x = x
  leads_on m c (t ∷ first) later x = leads_on t.after t.cursor first later x.1
