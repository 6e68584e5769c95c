-- From where no thread's word can pass, a run takes three turns at most, and each is idle or stalled and changes nothing.
use Prim.Native.Nat.{ℕ, zero, suc, ◌+◌, ◌-◌, ◌≤◌, ◌<◌}
use mathlib.Core.Path.{◌≡◌, refl, sym, ap, ◌∙◌}
use mathlib.Core.Bool.{Bool, true, false, cond}
use mathlib.Core.Logic.{◌⊎◌, inl, inr, ⊎_elim}
use mathlib.Core.List.Memᴰ
use mathlib.Core.List.{Memᴰ}
use native.Mathlib.Nat.{zero-add}
use native.Mathlib.Numerals.{add-one}
use native.Mathlib.Omega.{arith}
use lib.Dec.{leb, ltb, eqb-suc-zero}
use lib.ListN.{length}
use borrow.Author.Tests.{lt-ltb, le-ltb, le-leb, lt-leb, leb-true, leb-false}
use Rattle.machine.specs.Machine.{Machine}
use Rattle.machine.specs.Answers.{Told, accepted}
use Rattle.run_order.specs.declared.cursor.Cursor.{Cursor}
use Rattle.run_order.specs.Cursor.{Streams, used_up, onward_of}
use Rattle.run_order.specs.Stalls.{Stalls}
use Rattle.run_order.specs.Ending.{halt_of, RunEnd, goes_on, stuck, budget_used}
use Rattle.run_rules.specs.Run.{Turn, turn_of, Run, stop, before, run_from, run_of}
use Rattle.run_rules.specs.StuckForGood.{SamePositions, StillTurn, StuckForGood}
use Rattle.run_rules.proofs.Halting.{run_halts, run_on}
use Rattle.run_rules.proofs.Calls.{ready_call, run_taken}
use Rattle.run_rules.proofs.Turning.{onward_within}
use Rattle.run_rules.proofs.Waiting.{waited, turn_waits, turn_moves}
use Rattle.run_rules.proofs.Settled.{Settled, settled_waits, run_settles}

-- the same from the following thread's turn
settled_onward : (s : Streams) (m : Machine) (c : Cursor) (l : Stalls) → Settled s m c l → Settled s m (onward_of c) l
unfolding used_up onward_of
settled_onward s m c l x =
    record {
      ready = record { whole = x.ready.whole; lengths = x.ready.lengths; within = onward_within s c x.ready.within };
      words = x.words;
      says = x.says;
    }

same_onward : (c d : Cursor) → SamePositions c d → SamePositions (onward_of c) d
unfolding onward_of
same_onward c d p = record { at0 = p.at0; at1 = p.at1; at2 = p.at2 }

-- how many turns are left of three, and how they end, after `quiet` of them
abbrev turns_left : ℕ → ℕ → ℕ
turns_left quiet left = cond (ltb (quiet + left) 3) left (3 - quiet)

abbrev ends_as : ℕ → ℕ → Told RunEnd
ends_as quiet left = cond (ltb (quiet + left) 3) (accepted budget_used) (accepted stuck)

record Stays (m : Machine) (d : Cursor) (quiet left : ℕ) (r : Run) : Type 0 where
  each : (t : Turn) → Memᴰ t r.turns → StillTurn m d t
  count : length r.turns ≡ turns_left quiet left
  answer : r.answer ≡ ends_as quiet left
  after : r.after ≡ m
  positions : SamePositions r.cursor d

stays_stop : (m : Machine) (c d : Cursor) (quiet left : ℕ) (a : Told RunEnd) → SamePositions c d → turns_left quiet left ≡ 0 → ends_as quiet left ≡ a →
    Stays m d quiet left (stop a m c)
stays_stop m c d quiet left a p n e =
    record { each = λ t x. absurd (Memᴰ.not-nil x); count = sym n; answer = sym e; after = refl; positions = p }

one_turn : (quiet left : ℕ) → quiet < 3 → suc (turns_left (suc quiet) left) ≡ turns_left quiet (suc left)
one_turn quiet left l =
    let e : suc quiet + left ≡ quiet + suc left = omega arith in
    rw e (go (ltb (quiet + suc left) 3))
  where
    go : (b : Bool) → suc (cond b left (3 - suc quiet)) ≡ cond b (suc left) (3 - quiet)
    go true = refl
    go false = omega arith

stays_before : (m : Machine) (d : Cursor) (quiet left : ℕ) (t : Turn) (r : Run) → quiet < 3 → StillTurn m d t → Stays m d (suc quiet) left r →
    Stays m d quiet (suc left) (before t r)
stays_before m d quiet left t r l w x =
    let e : suc quiet + left ≡ quiet + suc left = omega arith in
    record {
      each = λ u y. ⊎_elim (λ (k : u ≡ t). rw k w) (λ z. x.each u z) (Memᴰ.cases_cons y);
      count = ap suc x.count ∙ one_turn quiet left l;
      answer = x.answer ∙ rw e;
      after = x.after;
      positions = x.positions;
    }

three_or_fewer : (n : ℕ) → (3 ≤ n) ⊎ (n < 3)
three_or_fewer n = go (leb 3 n) refl
  where
    go : (b : Bool) → leb 3 n ≡ b → (3 ≤ n) ⊎ (n < 3)
    go true e = inl (leb-true 3 n e)
    go false e = inr (leb-false 3 n e)

module _ (s : Streams) (m : Machine) (d : Cursor) (k : Stalls) where
  stays_turn : (c : Cursor) (quiet left : ℕ) → Settled s m c k → SamePositions c d → quiet < 3 →
      Stays m d (suc quiet) left (run_from left s (suc quiet) m (onward_of c)) → Stays m d quiet (suc left) (run_from (suc left) s quiet m c)
  unfolding halt_of
  stays_turn c quiet left x p l r =
      let first = settled_waits x in
      let w = waited (turn_of s m c).outcome c quiet first in
      let keeps = turn_waits s m c first in
      let moves = turn_moves s m c first in
      let due : halt_of s c quiet (suc left) ≡ goes_on = rw (x.words, lt-leb 3 quiet l, eqb-suc-zero left) in
      rw (run_on s quiet m c left due w.goes, w.counts, add-one quiet)
      (stays_before m d quiet left (turn_of s m c) _ l
      (record { outcome = first; after = keeps; positions = rw moves (same_onward c d p) })
      (rw (keeps, moves) r))

  stays_stuck : (left quiet : ℕ) (c : Cursor) → Settled s m c k → SamePositions c d → 3 ≤ quiet → Stays m d quiet left (run_from left s quiet m c)
  unfolding halt_of
  stays_stuck left quiet c x p l =
      let none : ltb (quiet + left) 3 ≡ false = le-ltb (quiet + left) 3 (omega arith) in
      let zero_left : 3 - quiet ≡ 0 = omega arith in
      rw (run_halts s quiet m c left (accepted stuck) (rw (x.words, le-leb 3 quiet l))) (stays_stop m c d quiet left (accepted stuck) p (rw (none, zero_left)) (rw none))

  stays_spent : (quiet : ℕ) (c : Cursor) → Settled s m c k → SamePositions c d → quiet < 3 → Stays m d quiet zero (run_from zero s quiet m c)
  unfolding halt_of
  stays_spent quiet c x p l =
      let some : ltb (quiet + 0) 3 ≡ true = lt-ltb (quiet + 0) 3 (omega arith) in
      rw (run_halts s quiet m c zero (accepted budget_used) (rw (x.words, lt-leb 3 quiet l))) (stays_stop m c d quiet zero (accepted budget_used) p (rw some) (rw some))

  stays : (left quiet : ℕ) (c : Cursor) → Settled s m c k → SamePositions c d → Stays m d quiet left (run_from left s quiet m c)
  stays zero quiet c x p = ⊎_elim (stays_stuck zero quiet c x p) (stays_spent quiet c x p) (three_or_fewer quiet)
  stays (suc left) quiet c x p =
      ⊎_elim (stays_stuck (suc left) quiet c x p)
      (λ l. stays_turn c quiet left x p l (stays left (suc quiet) (onward_of c) (settled_onward s m c k x) (same_onward c d p)))
      (three_or_fewer quiet)

pub stuck_for_good : StuckForGood
stuck_for_good s m c budget again e h =
    let n = (run_of s m c budget).after in
    let d = (run_of s m c budget).cursor in
    let x = run_settles s m c budget e in
    let r = stays s n d _ again 0 d x (record { at0 = refl; at1 = refl; at2 = refl }) in
    rw (← run_taken s n d again (ready_call s n d again x.ready h))
    (record { each = r.each; count = r.count ∙ rw zero-add; answer = r.answer ∙ rw zero-add; after = r.after; positions = r.positions })
