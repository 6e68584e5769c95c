-- The loop of a run against its definition: what holds before each turn, and what each way on or out makes of it.
use Prim.Native.Nat.{ℕ, suc, ◌+◌, ◌-◌, ◌<◌, ◌≤◌}
use mathlib.Core.Path.{◌≡◌, sym, ap, subst, ◌∙◌}
use mathlib.Core.List.{List}
use native.Mathlib.Nat.{add-zero, zero-add, sub-zero}
use native.Mathlib.Omega.{arith}
use lib.ListN.{length}
use Rattle.machine.specs.Machine.{Machine}
use Rattle.machine.specs.Answers.{Told}
use Rattle.machine.specs.Outcomes.{Progress}
use Rattle.run_order.specs.declared.cursor.Cursor.{Cursor}
use Rattle.run_order.specs.declared.ending.Ending.{Ending}
use Rattle.std.specs.Prelude.{Option, Some, None}
use Rattle.run_order.specs.Cursor.{Streams}
use Rattle.run_rules.specs.Run.{Turn, turned, turn_of, Run, before, run_from, Summary, summary, summary_from, summary_of}
use Rattle.run_order.specs.Stalls.{Stalls, no_stalls, stalls_after}
use Rattle.run_order.specs.Ending.{halt_of, refused_word, quiet_after, goes_on, told_ending, told_halt}
use Rattle.run_rules.specs.Ready.{Ready, ReadyApart}
use Rattle.run_rules.proofs.Halting.{due_after, run_halts, run_refused, run_on}
use Rattle.run_rules.proofs.Turning.{turn_ready}

-- what comes back of a run, where `turns` turns went before it
abbrev pub later : ℕ → Summary → Summary
later turns x = summary x.answer (turns + x.turns) x.after x.cursor x.stalls

later_turn : (n : ℕ) (l : Stalls) (c : Cursor) (t : Turn) (r : Run) →
    later n (summary_from l c (before t r)) ≡ later (n + 1) (summary_from (stalls_after t.outcome c.next l) t.cursor r)
later_turn n l c t r =
    let e : n + suc (length r.turns) ≡ n + 1 + length r.turns = omega arith in
    rw e

-- from m₀ and c₀, with the whole budget, to m and c, with the last stalls l: the run that is left makes the whole run's answer, whatever cells Dest has; and with
-- some cells the machine is ready for the next turn
pub record Going (s : Streams) (budget : ℕ) (m₀ : List ℕ → Machine) (c₀ : Cursor) (m : List ℕ → Machine) (c : Cursor) (quiet turns : ℕ) (l : Stalls) : Type 0 where
  pub cells : List ℕ
  pub ready : Ready s (m cells) c
  pub within : turns ≤ budget
  pub whole : (d : List ℕ) → summary_of c₀ (run_from budget s 0 (m₀ d) c₀) ≡ later turns (summary_from l c (run_from (budget - turns) s quiet (m d) c))

pub going_start : (s : Streams) (budget : ℕ) (m : List ℕ → Machine) (c : Cursor) → ReadyApart s m c → (l : Stalls) → l ≡ no_stalls → Going s budget m c m c 0 0 l
going_start s budget m c r l e =
    record { cells = r.cells; ready = r.ready; within = omega arith; whole = λ d. rw (sub-zero, zero-add, e) }

one_less : (budget turns : ℕ) → 0 < budget - turns → budget - turns ≡ suc (budget - (turns + 1))
one_less budget turns h = omega arith

module _ (s : Streams) (budget : ℕ) (m₀ : List ℕ → Machine) (c₀ : Cursor) (m : List ℕ → Machine) (c : Cursor) (quiet turns : ℕ) (l : Stalls) (g : Going s budget m₀ c₀ m c quiet turns l) (h : Option Ending) (eh : told_halt h ≡ halt_of s c quiet (budget - turns)) where
  pub going_ends : (a : Ending) → h ≡ Some a → (d : List ℕ) → summary (told_ending a) turns (m d) c l ≡ summary_of c₀ (run_from budget s 0 (m₀ d) c₀)
  going_ends a e d = rw (g.whole d, run_halts s quiet (m d) c (budget - turns) (told_ending a) (sym eh ∙ ap told_halt e), add-zero)

  -- a turn, alike whatever cells Dest has
  module _ (on : h ≡ None) (o : Told Progress) (m' : List ℕ → Machine) (c' : Cursor) (et : (d : List ℕ) → turned o (m' d) c' ≡ turn_of s (m d) c) (k : Stalls) (ek : k ≡ stalls_after o c.next l) (f : Option Ending) (ef : told_halt f ≡ refused_word o) where
    some : 0 < budget - turns
    some = (due_after s c quiet (budget - turns) h eh on).some

    due : halt_of s c quiet (suc (budget - (turns + 1))) ≡ goes_on
    due = rw (← one_less budget turns some) (sym eh ∙ ap told_halt on)

    word_halt : (d : List ℕ) → refused_word (turn_of s (m d) c).outcome ≡ told_halt f
    word_halt d = ap (λ (x : Turn). refused_word x.outcome) (sym (et d)) ∙ sym ef

    pub going_refused : (a : Ending) → f ≡ Some a → (d : List ℕ) → summary (told_ending a) (turns + 1) (m' d) c' k ≡ summary_of c₀ (run_from budget s 0 (m₀ d) c₀)
    going_refused a e d =
        rw (g.whole d, one_less budget turns some, run_refused s quiet (m d) c (budget - (turns + 1)) due (told_ending a) (word_halt d ∙ ap told_halt e), ← et d, ek)

    pub going_on : f ≡ None → (q : ℕ) → q ≡ quiet_after o quiet → Going s budget m₀ c₀ m' c' q (turns + 1) k
    going_on e q eq =
        let x = g.cells in
        let r : Ready s (m' x) c' = subst (λ (t : Turn). Ready s t.after t.cursor) (sym (et x)) (turn_ready s (m x) c g.ready) in
        record {
          cells = x;
          ready = r;
          within = omega (arith, some);
          whole = λ d.
              rw (g.whole d, one_less budget turns some, run_on s quiet (m d) c (budget - (turns + 1)) due (word_halt d ∙ ap told_halt e), ← et d, ← eq, ek)
              (later_turn turns l c (turned o (m' d) c') (run_from (budget - (turns + 1)) s q (m' d) c'));
        }
