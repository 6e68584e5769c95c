-- A call: what its checks show, and the run that it is.
use Prim.Native.Nat.{ℕ, ◌≤◌}
use mathlib.Core.Path.{◌≡◌, refl}
use mathlib.Core.Bool.{Bool, true, false, ◌&&◌}
use native.Mathlib.Omega.{arith}
use lib.Dec.{leb}
use lib.ListN.{length}
use borrow.Author.Tests.{leb-true, le-leb}
use Rattle.bits.proofs.Choices.{and_left, and_right, and_intro}
use Rattle.machine.specs.declared.refusal.Refusal.{Refusal}
use Rattle.machine.specs.Sizes.{stream_most, budget_most}
use Rattle.machine.specs.Machine.{Machine}
use Rattle.machine.specs.Formed.{sized, formed}
use Rattle.machine.proofs.StoreFacts.{SizedFacts, sized_facts}
use Rattle.std.specs.Prelude.{Result, Ok, Err}
use Rattle.machine.specs.Answers.{Told, accepted, refusal, told, provided}
use Rattle.run_order.specs.declared.cursor.Cursor.{Cursor}
use Rattle.run_order.specs.Cursor.{Streams}
use Rattle.run_order.specs.Ending.{goes_on}
use Rattle.run_rules.specs.Checks.{streams_sized, placed, call_check, call_halt}
use Rattle.run_rules.specs.Ready.{Lengths, Within, Ready}
use Rattle.run_rules.specs.Run.{stop, run_from, run_of}

module _ (s : Streams) (m : Machine) (c : Cursor) (budget : ℕ) (k : Result (Unit {0}) Refusal) (ek : told k ≡ call_check s m c budget) where
  pub call_refused_lem : (r : Refusal) → k ≡ Err r → stop (refusal r) m c ≡ run_of s m c budget
  unfolding run_of
  call_refused_lem r e = rw (← ek, e)

pub run_taken : (s : Streams) (m : Machine) (c : Cursor) (budget : ℕ) → call_check s m c budget ≡ accepted tt → run_from budget s 0 m c ≡ run_of s m c budget
unfolding run_of
run_taken s m c budget e = rw e

lengths_of : (s : Streams) → streams_sized s ≡ true → Lengths s
unfolding streams_sized
lengths_of s h =
    let l0 = leb (length s.s0) stream_most in
    let l1 = leb (length s.s1) stream_most in
    let l2 = leb (length s.s2) stream_most in
    let rest = and_right l0 (l1 && l2) h in
    record {
      long0 = leb-true (length s.s0) stream_most (and_left l0 (l1 && l2) h);
      long1 = leb-true (length s.s1) stream_most (and_left l1 l2 rest);
      long2 = leb-true (length s.s2) stream_most (and_right l1 l2 rest);
    }

of_lengths : (s : Streams) → Lengths s → streams_sized s ≡ true
unfolding streams_sized
of_lengths s l = rw (le-leb _ _ l.long0, le-leb _ _ l.long1, le-leb _ _ l.long2)

within_of : (s : Streams) (c : Cursor) → placed s c ≡ true → Within s c
unfolding placed
within_of s c h =
    let p0 = leb c.at0 (length s.s0) in
    let p1 = leb c.at1 (length s.s1) in
    let p2 = leb c.at2 (length s.s2) in
    let t = leb c.next 2 in
    let h1 = and_right p0 (p1 && (p2 && t)) h in
    let h2 = and_right p1 (p2 && t) h1 in
    let last : c.next ≤ 2 = leb-true c.next 2 (and_right p2 t h2) in
    record {
      at0 = leb-true c.at0 (length s.s0) (and_left p0 (p1 && (p2 && t)) h);
      at1 = leb-true c.at1 (length s.s1) (and_left p1 (p2 && t) h1);
      at2 = leb-true c.at2 (length s.s2) (and_left p2 t h2);
      thread = omega arith;
    }

of_within : (s : Streams) (c : Cursor) → Within s c → placed s c ≡ true
unfolding placed
of_within s c w =
    let last : c.next ≤ 2 = omega arith in
    rw (le-leb _ _ w.at0, le-leb _ _ w.at1, le-leb _ _ w.at2, le-leb _ _ last)

need_holds : (b : Bool) (n : ℕ) (x : Told (Unit {0})) → call_halt (provided b n x) ≡ goes_on → (b ≡ true) × (call_halt x ≡ goes_on)
need_holds true n x e = (refl, e)
need_holds false n x e = let z : ◌≡◌ {A = ℕ} 0 1 = cc in absurd (omega arith)

-- what the checks of a call that is not refused have shown
pub record Checked (s : Streams) (m : Machine) (c : Cursor) (budget : ℕ) : Type 0 where
  pub ready : Ready s m c
  pub few : budget ≤ budget_most

pub call_checked : (s : Streams) (m : Machine) (c : Cursor) (budget : ℕ) → call_halt (call_check s m c budget) ≡ goes_on → Checked s m c budget
unfolding call_check
call_checked s m c budget e =
    let h6 = provided (leb budget budget_most) 6 (accepted tt) in
    let h5 = provided (placed s c) 5 h6 in
    let e4 = need_holds (sized m && streams_sized s) 4 (provided (formed m) 10 h5) e in
    let e10 = need_holds (formed m) 10 h5 e4.1 in
    let e5 = need_holds (placed s c) 5 h6 e10.1 in
    let e6 = need_holds (leb budget budget_most) 6 (accepted tt) e5.1 in
    record {
      ready = record {
        whole = and_intro (sized m) (formed m) (and_left (sized m) (streams_sized s) e4.0) e10.0;
        lengths = lengths_of s (and_right (sized m) (streams_sized s) e4.0);
        within = within_of s c e5.0;
      };
      few = leb-true budget budget_most e6.0;
    }

-- a call that is ready, with a budget within its limit, is not refused
pub ready_call : (s : Streams) (m : Machine) (c : Cursor) (budget : ℕ) → Ready s m c → budget ≤ budget_most → call_check s m c budget ≡ accepted tt
unfolding call_check
ready_call s m c budget r h =
    rw (and_left (sized m) (formed m) r.whole, and_right (sized m) (formed m) r.whole, of_lengths s r.lengths, of_within s c r.within, le-leb budget budget_most h)

-- what the code's answer shows where it is no refusal
module _ (s : Streams) (m : Machine) (c : Cursor) (budget : ℕ) (k : Result (Unit {0}) Refusal) (ek : told k ≡ call_check s m c budget) (h : (r : Refusal) → k ≡ Err r → ⊥) where
  fine : (x : Result (Unit {0}) Refusal) → k ≡ x → call_check s m c budget ≡ accepted tt
  fine (Ok u) e = rw (← ek, e)
  fine (Err r) e = absurd (h r e)

  pub call_ready : Ready s m c
  call_ready = (call_checked s m c budget (rw (fine k refl))).ready

  pub call_sizes : SizedFacts m.settings m.kept
  call_sizes = sized_facts m (and_left (sized m) (formed m) call_ready.whole)

  pub call_taken : run_from budget s 0 m c ≡ run_of s m c budget
  call_taken = run_taken s m c budget (fine k refl)
