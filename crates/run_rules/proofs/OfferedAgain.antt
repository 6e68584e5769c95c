-- A stalled word is its thread's word again, three turns on.
use Prim.Native.Nat.{ℕ, ◌+◌, ◌<◌}
use mathlib.Core.Path.{◌≡◌, refl, ◌∙◌}
use mathlib.Core.Bool.{false, cond}
use mathlib.Core.List.{List, [], ◌∷◌, ◌++◌}
use native.Mathlib.Omega.{arith}
use Rattle.machine.specs.Machine.{Machine}
use Rattle.machine.specs.Answers.{Told, accepted, refused}
use Rattle.machine.specs.Outcomes.{Progress, stalled, has_passed}
use Rattle.run_order.specs.declared.cursor.Cursor.{Cursor}
use Rattle.run_order.specs.Cursor.{following, Streams}
use Rattle.run_order.specs.Ending.{Halted, halts, goes_on}
use Rattle.run_rules.specs.Run.{Turn, unless, run_from, run_of}
use Rattle.run_rules.specs.Checks.{call_check, call_halt}
use Rattle.run_rules.specs.Ready.{Ready}
use Rattle.run_rules.specs.Chained.{Leads}
use Rattle.run_rules.specs.Observed.{machine_left, cursor_left}
use Rattle.run_rules.specs.Ended.{MayFollow, EachDue}
use Rattle.run_rules.specs.OfferedAgain.{position_of, was_refused, Moves, SameWord, OfferedAgain}
use Rattle.run_rules.proofs.Calls.{call_checked}
use Rattle.run_rules.proofs.Turning.{turn_ready}
use Rattle.run_rules.proofs.Threads.{threads_round, other_thread, third_thread}
use Rattle.run_rules.proofs.Moving.{turn_moves, same_word}
use Rattle.run_rules.proofs.Chained.{chained, leads_on}
use Rattle.run_rules.proofs.Ended.{ended}

-- ---- three turns
not_refused : (o : Told Progress) (u : Turn) (later : List Turn) → MayFollow o (u ∷ later) → was_refused o ≡ false
not_refused (accepted p) u later x = refl
not_refused (refused n vs) u later x = let z : ◌≡◌ {A = ℕ} 0 1 = cc in absurd (omega arith)

-- a stalled turn from c, and two more that are not refused
module _ (s : Streams) (c e₁ e₂ e₃ : Cursor) (o₁ o₂ o₃ : Told Progress) (h : c.next < 3)
    (x₁ : Moves o₁ c e₁) (x₂ : e₁.next < 3 → Moves o₂ e₁ e₂) (x₃ : e₂.next < 3 → Moves o₃ e₂ e₃)
    (quiet : has_passed o₁ ≡ false) (r₁ : was_refused o₁ ≡ false) (r₂ : was_refused o₂ ≡ false) (r₃ : was_refused o₃ ≡ false) where
  next₁ : e₁.next ≡ following c.next
  next₁ = x₁.next ∙ rw r₁

  next₂ : (k : e₁.next < 3) → e₂.next ≡ following (following c.next)
  next₂ k = (x₂ k).next ∙ rw (r₂, next₁)

  round : (k : e₁.next < 3) (l : e₂.next < 3) → SameWord s c e₃
  round k l =
      let n : e₃.next ≡ c.next = (x₃ l).next ∙ rw (r₃, next₂ k) (threads_round c.next h) in
      let p₁ : position_of e₁ c.next ≡ position_of c c.next = x₁.own ∙ rw quiet in
      let p₂ = (x₂ k).others c.next h (λ q. other_thread c.next h (q ∙ next₁)) in
      let p₃ = (x₃ l).others c.next h (λ q. third_thread c.next h (q ∙ next₂ k)) in
      same_word s c e₃ n (p₃ ∙ p₂ ∙ p₁)

-- ---- a run
turns_ready : (s : Streams) (m : Machine) (c : Cursor) (first later : List Turn) (after : Machine) (end : Cursor) → Ready s m c →
    Leads s m c (first ++ later) after end → Ready s (machine_left m first) (cursor_left c first)
turns_ready s m c [] later after end r x = r
turns_ready s m c (t ∷ first) later after end r x =
    turns_ready s t.after t.cursor first later after end (rw x.0 (turn_ready s m c r)) x.1

due_on : (s : Streams) (quiet : ℕ) (c : Cursor) (first : List Turn) (t u v : Turn) (later : List Turn) → EachDue s quiet c (first ++ (t ∷ u ∷ v ∷ later)) →
    (was_refused t.outcome ≡ false) × (was_refused u.outcome ≡ false)
due_on s quiet c [] t u v later x =
    (not_refused t.outcome u (v ∷ later) x.2, not_refused u.outcome v later x.3.2)
due_on s quiet c (w ∷ first) t u v later x = due_on s (cond (has_passed w.outcome) 0 (quiet + 1)) w.cursor first t u v later x.3

-- a call that took turns was not refused
took_turns : (s : Streams) (m : Machine) (c : Cursor) (budget : ℕ) (first : List Turn) (t : Turn) (later : List Turn) →
    (run_of s m c budget).turns ≡ first ++ (t ∷ later) → Ready s m c
unfolding run_of
took_turns s m c budget first t later e = go (call_halt (call_check s m c budget)) refl e
  where
    empty : (l : List Turn) → [] ≡ l ++ (t ∷ later) → ⊥
    empty [] x = let z : ◌≡◌ {A = ℕ} 0 1 = cc in omega arith
    empty (u ∷ l) x = let z : ◌≡◌ {A = ℕ} 0 1 = cc in omega arith

    go : (h : Halted) → call_halt (call_check s m c budget) ≡ h → (unless h m c (run_from budget s 0 m c)).turns ≡ first ++ (t ∷ later) → Ready s m c
    go (halts a) x y = absurd (empty first y)
    go goes_on x y = (call_checked s m c budget x).ready

again : (s : Streams) (m : Machine) (c : Cursor) (budget : ℕ) (earlier : List Turn) (t u v : Turn) (later : List Turn) →
    (run_of s m c budget).turns ≡ earlier ++ (t ∷ u ∷ v ∷ later) →
    (n cause : ℕ) → t.outcome ≡ accepted (stalled n cause) → was_refused v.outcome ≡ false →
    SameWord s (cursor_left c earlier) v.cursor
again s m c budget earlier t u v later e n cause stall fine =
    let r = run_of s m c budget in
    let d = cursor_left c earlier in
    let k = machine_left m earlier in
    let chain : Leads s m c (earlier ++ (t ∷ u ∷ v ∷ later)) r.after r.cursor = rw e at (chained.each s m c budget) in
    let x = leads_on s r.after r.cursor m c earlier (t ∷ u ∷ v ∷ later) chain in
    let ready = turns_ready s m c earlier (t ∷ u ∷ v ∷ later) r.after r.cursor (took_turns s m c budget earlier t (u ∷ v ∷ later) e) chain in
    let ready₁ : Ready s t.after t.cursor = rw x.0 (turn_ready s k d ready) in
    let ready₂ : Ready s u.after u.cursor = rw x.1.0 (turn_ready s t.after t.cursor ready₁) in
    let due = due_on s 0 c earlier t u v later (rw e at (ended.due s m c budget)) in
    round s d t.cursor u.cursor v.cursor t.outcome u.outcome v.outcome ready.within.thread
    (rw x.0 (turn_moves s k d ready.within.thread))
    (λ h. rw x.1.0 (turn_moves s t.after t.cursor h))
    (λ h. rw x.1.1.0 (turn_moves s u.after u.cursor h))
    (rw stall) due.0 due.1 fine ready₁.within.thread ready₂.within.thread

pub offered_again : OfferedAgain
offered_again = record { moves = turn_moves; again = again }
