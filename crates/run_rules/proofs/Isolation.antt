-- Condition 3, by induction on the budget: two turns from machines that agree are alike, whatever the stores hold.
use Prim.Native.Nat.{ℕ, zero, suc}
use mathlib.Core.Path.{◌≡◌, refl, ap}
use mathlib.Core.Bool.{true}
use mathlib.Core.List.{List, Forall₂}
use Rattle.bits.proofs.Choices.{and_left, and_right}
use Rattle.machine.specs.Machine.{Machine}
use Rattle.machine.specs.Formed.{sized, formed, well_formed}
use Rattle.machine.specs.Answers.{Told, accepted}
use Rattle.machine.specs.Outcomes.{Progress}
use Rattle.step_rules.specs.Alike.{Agree}
use Rattle.step_rules.proofs.Alike.{offers_alike}
use Rattle.run_order.specs.declared.cursor.Cursor.{Cursor}
use Rattle.std.specs.Prelude.{Option, Some, None}
use Rattle.run_order.specs.Cursor.{Streams, next_word, moved_of}
use Rattle.run_order.specs.Stalls.{Stalls, no_stalls, stalls_after}
use Rattle.run_order.specs.Ending.{halt_of, refused_word, quiet_after, RunEnd, Halted, halts, goes_on, budget_used}
use Rattle.run_rules.specs.Run.{Turn, by_word, turn_of, Run, stop, before, unless, run_from, run_of, stalls_left}
use Rattle.run_rules.specs.Checks.{call_check, call_halt}
use Rattle.run_rules.specs.Isolation.{TurnsAlike, RunsAlike, Isolated}

turns_alike : (s : Streams) (c : Cursor) (m n : Machine) → Agree m n → TurnsAlike (turn_of s m c) (turn_of s n c)
unfolding turn_of
turns_alike s c m n a = go (next_word s c)
  where
    go : (o : Option ℕ) → TurnsAlike (by_word m c o) (by_word n c o)
    go None = record { outcome = refl; agree = a; cursor = refl }
    go (Some w) =
        let x = offers_alike m n c.next w a in
        record {
          outcome = x.outcome;
          agree = x.agree;
          cursor = ap (λ (o : Told Progress). moved_of o c) x.outcome;
        }

-- turns that are alike leave the same last stalls
stalls_alike : (c : Cursor) (l : Stalls) {ts us : List Turn} → Forall₂ TurnsAlike ts us → stalls_left c ts l ≡ stalls_left c us l
stalls_alike c l Forall₂.nil = refl
stalls_alike c l (Forall₂.cons {a = t} {l₁ = ts} {l₂ = us} x rest) =
    rw (← x.outcome, ← x.cursor) (stalls_alike t.cursor (stalls_after t.outcome c.next l) {ts = ts} {us = us} rest)

stops_alike : (a : Told RunEnd) (c : Cursor) (m n : Machine) → Agree m n → RunsAlike c (stop a m c) (stop a n c)
stops_alike a c m n e =
    record { count = refl; each = Forall₂.nil; answer = refl; agree = e; cursor = refl; stalls = refl }

before_alike : {t u : Turn} {p q : Run} (c : Cursor) → TurnsAlike t u → RunsAlike t.cursor p q → RunsAlike c (before t p) (before u q)
before_alike c x r =
    record {
      count = ap suc r.count;
      each = Forall₂.cons x r.each;
      answer = r.answer;
      agree = r.agree;
      cursor = r.cursor;
      stalls = stalls_alike c no_stalls (Forall₂.cons x r.each);
    }

unless_alike : (h : Halted) (c : Cursor) (m n : Machine) {p q : Run} → Agree m n → RunsAlike c p q → RunsAlike c (unless h m c p) (unless h n c q)
unless_alike (halts a) c m n e r = stops_alike a c m n e
unless_alike goes_on c m n e r = r

from_alike : (left : ℕ) (s : Streams) (quiet : ℕ) (c : Cursor) (m n : Machine) → Agree m n →
    RunsAlike c (run_from left s quiet m c) (run_from left s quiet n c)
unfolding run_from
from_alike zero s quiet c m n a = unless_alike (halt_of s c quiet 0) c m n a (stops_alike (accepted budget_used) c m n a)
from_alike (suc left) s quiet c m n a =
    let t = turn_of s m c in
    let u = turn_of s n c in
    let x = turns_alike s c m n a in
    let rest = from_alike left s (quiet_after t.outcome quiet) t.cursor t.after u.after x.agree in
    unless_alike (halt_of s c quiet (suc left)) c m n a
    (before_alike c x (rw (← x.outcome, ← x.cursor) (unless_alike (refused_word t.outcome) t.cursor t.after u.after x.agree rest)))

-- well-formed machines pass the same checks, or fail them by streams, cursor or budget
checks_alike : (s : Streams) (c : Cursor) (budget : ℕ) (m n : Machine) → well_formed m ≡ true → well_formed n ≡ true →
    call_check s m c budget ≡ call_check s n c budget
unfolding call_check
checks_alike s c budget m n hm hn =
    rw (and_left (sized m) (formed m) hm, and_right (sized m) (formed m) hm, and_left (sized n) (formed n) hn, and_right (sized n) (formed n) hn)

pub isolated : Isolated
unfolding run_of
isolated s c budget m n hm hn a =
    rw (checks_alike s c budget m n hm hn) (unless_alike (call_halt (call_check s n c budget)) c m n a (from_alike budget s 0 c m n a))
