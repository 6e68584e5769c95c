-- How a run ends, by induction on the turns left of its budget.
use Prim.Native.Nat.{ℕ, zero, suc, ◌+◌, ◌<◌, ◌≤◌}
use mathlib.Core.Path.{◌≡◌, refl, ap, ◌∙◌}
use mathlib.Core.Bool.{Bool, true, false, cond, ◌&&◌}
use mathlib.Core.List.{List, [], ◌∷◌}
use mathlib.Core.Logic.{◌⊎◌, inl, inr}
use native.Mathlib.Omega.{arith}
use lib.Dec.{leb, eqb-suc-zero}
use lib.ListN.{length}
use borrow.Author.Tests.{leb-true, leb-false}
use Rattle.machine.specs.Sizes.{budget_most}
use Rattle.machine.specs.Machine.{Machine}
use Rattle.machine.specs.Formed.{sized, formed}
use Rattle.machine.specs.Answers.{Told, accepted, refused, provided}
use Rattle.machine.specs.Outcomes.{Progress, idle, passed, stalled, has_passed}
use Rattle.word_rules.proofs.Saying.{TwoOrThree}
use Rattle.step_rules.proofs.Refusing.{offer_refuses}
use Rattle.run_order.specs.declared.cursor.Cursor.{Cursor}
use Rattle.std.specs.Prelude.{Option, Some, None}
use Rattle.run_order.specs.Cursor.{moved_of, Streams, used_up, next_word}
use Rattle.run_order.specs.Ending.{RunEnd, finished, stuck, budget_used, word_refused, Halted, halts, goes_on, halt_of, refused_word, quiet_after}
use Rattle.run_rules.specs.Run.{Turn, by_word, turn_of, Run, stop, before, unless, run_from, run_of}
use Rattle.run_rules.specs.Checks.{streams_sized, placed, call_check, call_halt}
use Rattle.run_rules.specs.Ended.{quiet_left, EachDue, ByWord, EndsAs, Ended}
use Rattle.run_rules.proofs.Turning.{turn_moved}
use Rattle.run_rules.proofs.Waiting.{turn_keeps}

-- ---- a turn that is refused
turn_refuses : (s : Streams) (m : Machine) (c : Cursor) → TwoOrThree (turn_of s m c).outcome
unfolding turn_of
turn_refuses s m c = go (next_word s c)
  where
    go : (o : Option ℕ) → TwoOrThree (by_word m c o).outcome
    go None = tt
    go (Some w) = offer_refuses m c.next w

module _ (s : Streams) (m : Machine) (c : Cursor) (n : ℕ) (vs : List ℕ) (e : (turn_of s m c).outcome ≡ refused n vs) where
  abbrev t : Turn
  t = turn_of s m c

  by_number : TwoOrThree {A = Progress} (refused n vs)
  by_number = rw e at (turn_refuses s m c)

  stays : t.cursor ≡ c
  unfolding moved_of
  stays = turn_moved s m c ∙ rw e

  refused_turn : ByWord m c n vs (before t (stop (accepted (word_refused n vs)) t.after t.cursor))
  refused_turn =
      record {
        number = by_number.0;
        values = by_number.1;
        earlier = [];
        last = t;
        turns_taken = refl;
        outcome = e;
        after = turn_keeps s m c (rw e);
        cursor = stays;
      }

-- ---- the run from a turn on
-- what is so of a run with `left` turns of its budget left, after `quiet` turns without a passed word
abbrev EndsFrom : Streams → ℕ → Machine → Cursor → ℕ → Run → Told RunEnd → Type 0
EndsFrom s quiet m c left r (accepted finished) = used_up s r.cursor ≡ true
EndsFrom s quiet m c left r (accepted stuck) = (used_up s r.cursor ≡ false) × (3 ≤ quiet_left quiet r.turns)
EndsFrom s quiet m c left r (accepted budget_used) =
    (used_up s r.cursor ≡ false) × (quiet_left quiet r.turns < 3) × (length r.turns ≡ left)
EndsFrom s quiet m c left r (accepted (word_refused n vs)) = ByWord m c n vs r
EndsFrom s quiet m c left r (refused n vs) = ⊥

record Course (s : Streams) (quiet : ℕ) (m : Machine) (c : Cursor) (left : ℕ) (r : Run) : Type 0 where
  due : EachDue s quiet c r.turns
  ends : EndsFrom s quiet m c left r r.answer

quiet_is : (o : Told Progress) (quiet : ℕ) → quiet_after o quiet ≡ cond (has_passed o) 0 (quiet + 1)
unfolding quiet_after
quiet_is (accepted idle) quiet = refl
quiet_is (accepted passed) quiet = refl
quiet_is (accepted (stalled n cause)) quiet = refl
quiet_is (refused n vs) quiet = refl

-- a turn before a run whose end is known
module _ (s : Streams) (quiet : ℕ) (m : Machine) (c : Cursor) (left : ℕ) (t : Turn) (p : Progress) (e : t.outcome ≡ accepted p) where
  later_ends : (a : Told RunEnd) (r : Run) → EndsFrom s (cond (has_passed t.outcome) 0 (quiet + 1)) t.after t.cursor left r a →
      EndsFrom s quiet m c (suc left) (before t r) a
  later_ends (accepted finished) r x = x
  later_ends (accepted stuck) r x = x
  later_ends (accepted budget_used) r x = (x.0, x.1, ap suc x.2)
  later_ends (accepted (word_refused n vs)) r x =
      record {
        number = x.number;
        values = x.values;
        earlier = t ∷ x.earlier;
        last = x.last;
        turns_taken = ap (λ (l : List Turn). t ∷ l) x.turns_taken;
        outcome = x.outcome;
        after = x.after;
        cursor = x.cursor;
      }
  later_ends (refused n vs) r x = x

  turn_before : (r : Run) → used_up s c ≡ false → quiet < 3 → Course s (cond (has_passed t.outcome) 0 (quiet + 1)) t.after t.cursor left r →
      Course s quiet m c (suc left) (before t r)
  turn_before r words few x =
      record { due = (words, few, rw e tt, x.due); ends = later_ends r.answer r x.ends }

word_goes : (p : Progress) → refused_word (accepted p) ≡ goes_on
unfolding refused_word
word_goes idle = refl
word_goes passed = refl
word_goes (stalled n cause) = refl

-- a turn that is due, and the run that follows it unless its word is refused
module _ (s : Streams) (quiet : ℕ) (m : Machine) (c : Cursor) (left : ℕ) (rest : Run) (words : used_up s c ≡ false) (few : quiet < 3)
    (x : Course s (quiet_after (turn_of s m c).outcome quiet) (turn_of s m c).after (turn_of s m c).cursor left rest) where
  due_turn : (o : Told Progress) → (turn_of s m c).outcome ≡ o →
      Course s quiet m c (suc left) (before (turn_of s m c) (unless (refused_word o) (turn_of s m c).after (turn_of s m c).cursor rest))
  unfolding refused_word
  due_turn (accepted p) e =
      rw (word_goes p) (turn_before s quiet m c left (turn_of s m c) p e rest words few (rw (← quiet_is (turn_of s m c).outcome quiet) x))
  due_turn (refused n vs) e = record { due = (words, few, rw e refl, tt); ends = refused_turn s m c n vs e }

-- what ends a run before a turn, and else the turn
before_turn : (s : Streams) (quiet : ℕ) (m : Machine) (c : Cursor) (left : ℕ) (h : Halted) (r : Run) →
    (used_up s c ≡ false → quiet < 3 → Course s quiet m c left (unless h m c r)) →
    Course s quiet m c left (unless (cond (used_up s c) (halts (accepted finished)) (cond (leb 3 quiet) (halts (accepted stuck)) h)) m c r)
before_turn s quiet m c left h r f = go (used_up s c) (leb 3 quiet) refl refl
  where
    go : (x y : Bool) → used_up s c ≡ x → leb 3 quiet ≡ y →
        Course s quiet m c left (unless (cond x (halts (accepted finished)) (cond y (halts (accepted stuck)) h)) m c r)
    go true y ex ey = record { due = tt; ends = ex }
    go false true ex ey = record { due = tt; ends = (ex, leb-true 3 quiet ey) }
    go false false ex ey = f ex (leb-false 3 quiet ey)

from_course : (left : ℕ) (s : Streams) (quiet : ℕ) (m : Machine) (c : Cursor) → Course s quiet m c left (run_from left s quiet m c)
unfolding run_from halt_of
from_course zero s quiet m c =
    before_turn s quiet m c zero (halts (accepted budget_used)) (stop (accepted budget_used) m c) (λ words few. record { due = tt; ends = (words, few, refl) })
from_course (suc left) s quiet m c =
    let t = turn_of s m c in
    let rest = run_from left s (quiet_after t.outcome quiet) t.after t.cursor in
    let x = from_course left s (quiet_after t.outcome quiet) t.after t.cursor in
    rw (eqb-suc-zero left)
    (before_turn s quiet m c (suc left) goes_on (before t (unless (refused_word t.outcome) t.after t.cursor rest))
    (λ words few. due_turn s quiet m c left rest words few x t.outcome refl))

-- ---- the call
-- the first test that fails answers its number
by_call : (s : Streams) (m : Machine) (c : Cursor) (budget n : ℕ) (vs : List ℕ) → call_check s m c budget ≡ refused n vs →
    ((n ≡ 4) ⊎ ((n ≡ 10) ⊎ ((n ≡ 5) ⊎ (n ≡ 6)))) × (vs ≡ [])
unfolding call_check
by_call s m c budget n vs e = go (sized m && streams_sized s) (formed m) (placed s c) (leb budget budget_most) e
  where
    go : (a b d f : Bool) → ◌≡◌ {A = Told (Unit {0})} (provided a 4 (provided b 10 (provided d 5 (provided f 6 (accepted tt))))) (refused n vs) →
        ((n ≡ 4) ⊎ ((n ≡ 10) ⊎ ((n ≡ 5) ⊎ (n ≡ 6)))) × (vs ≡ [])
    go false b d f h = (inl cc, cc)
    go true false d f h = (inr (inl cc), cc)
    go true true false f h = (inr (inr (inl cc)), cc)
    go true true true false h = (inr (inr (inr cc)), cc)
    go true true true true h = let z : ◌≡◌ {A = ℕ} 0 1 = cc in absurd (omega arith)

call_ends : (s : Streams) (m : Machine) (c : Cursor) (budget : ℕ) (a : Told RunEnd) (r : Run) → EndsFrom s 0 m c budget r a → EndsAs s m c budget r a
call_ends s m c budget (accepted finished) r x = x
call_ends s m c budget (accepted stuck) r x = x
call_ends s m c budget (accepted budget_used) r x = x
call_ends s m c budget (accepted (word_refused n vs)) r x = x
call_ends s m c budget (refused n vs) r x = absurd x

-- a run's turns were due, and its end is as its answer says
abbrev Whole : Streams → Machine → Cursor → ℕ → Run → Type 0
Whole s m c budget r = EachDue s 0 c r.turns × EndsAs s m c budget r r.answer

whole : (s : Streams) (m : Machine) (c : Cursor) (budget : ℕ) → Whole s m c budget (run_of s m c budget)
unfolding run_of
whole s m c budget = go (call_check s m c budget) refl
  where
    run : Run
    run = run_from budget s 0 m c

    go : (x : Told (Unit {0})) → call_check s m c budget ≡ x → Whole s m c budget (unless (call_halt x) m c run)
    go (accepted u) e = ((from_course budget s 0 m c).due, call_ends s m c budget run.answer run (from_course budget s 0 m c).ends)
    go (refused n vs) e =
        let k = by_call s m c budget n vs e in
        (tt, record { number = k.0; values = k.1; whole = refl })

pub ended : Ended
ended = record { due = λ s m c budget. (whole s m c budget).0; ends = λ s m c budget. (whole s m c budget).1 }
