-- Each thread's last stall in a run: "none at a run's start and cleared when that thread passes" (document 02, K3).
use Rattle.std.specs.Prelude.{ℕ, cond, eqb, Option, Some, None}
use Rattle.machine.specs.Numbers.{stall_number_of, stall_cause_of}
use Rattle.machine.specs.Answers.{Told, accepted, refused}
use Rattle.machine.specs.Outcomes.{Progress, idle, passed, stalled}
use Rattle.machine.specs.declared.refusal.StallCause.{StallCause}
use Rattle.run_order.specs.declared.stalls.LastStalls.{LastStalls}

-- none, or its number and cause
pub data Stall : Type 0 where
  unstalled : Stall
  stalled_by : ℕ → ℕ → Stall

-- of threads 0, 1 and 2
pub record Stalls : Type 0 where
  pub t0 : Stall
  pub t1 : Stall
  pub t2 : Stall

abbrev pub stalls : Stall → Stall → Stall → Stalls
stalls a b c = record { t0 = a; t1 = b; t2 = c }

abbrev pub told_stall : Option StallCause → Stall
told_stall None = unstalled
told_stall (Some cause) = stalled_by (stall_number_of cause) (stall_cause_of cause)

abbrev pub told_stalls : LastStalls → Stalls
told_stalls l = stalls (told_stall l.t0) (told_stall l.t1) (told_stall l.t2)

abbrev pub no_stalls : Stalls
no_stalls = stalls unstalled unstalled unstalled

abbrev pub stall_of : Stalls → ℕ → Stall
stall_of l t = cond (eqb t 0) l.t0 (cond (eqb t 1) l.t1 l.t2)

unfoldable pub with_stall : Stalls → ℕ → Stall → Stalls
with_stall l t x =
    cond (eqb t 0) (stalls x l.t1 l.t2)
    (cond (eqb t 1) (stalls l.t0 x l.t2)
    (stalls l.t0 l.t1 x))

-- after a turn of thread t with this outcome
unfoldable pub stalls_after : Told Progress → ℕ → Stalls → Stalls
stalls_after (accepted idle) t l = l
stalls_after (accepted passed) t l = with_stall l t unstalled
stalls_after (accepted (stalled n cause)) t l = with_stall l t (stalled_by n cause)
stalls_after (refused n vs) t l = l
