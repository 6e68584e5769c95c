-- What the last stalls say of the machine, and that a turn keeps it so.
use Prim.Native.Nat.{ℕ, suc, ◌+◌, ◌≤◌, ◌<◌}
use mathlib.Core.Path.{◌≡◌, refl, sym, ap, ◌∙◌}
use mathlib.Core.Bool.{Bool, true, false, cond}
use native.Mathlib.Omega.{arith}
use lib.Dec.{eqb}
use Rattle.machine.specs.Machine.{Machine}
use Rattle.machine.specs.Answers.{Told, accepted, refused}
use Rattle.machine.specs.Outcomes.{Progress, idle, passed, stalled}
use Rattle.word_rules.specs.declared.instruction.Instruction.{Instruction}
use Rattle.word_rules.specs.Table.{decode_of}
use Rattle.word_rules.specs.Waits.{Gate, Open, Closed, gate_of}
use Rattle.step_rules.specs.Step.{by_gate, gated_of, by_decoded, offer_of}
use Rattle.run_order.specs.declared.cursor.Cursor.{Cursor}
use Rattle.std.specs.Prelude.{Option, Some, None}
use Rattle.run_order.specs.Cursor.{Streams, cursor, next_word, following, onward_of, moved_of}
use Rattle.run_order.specs.Ending.{refused_word, quiet_after, goes_on}
use Rattle.run_order.specs.Stalls.{Stall, unstalled, stalled_by, Stalls, no_stalls, stall_of, with_stall, stalls_after}
use Rattle.run_rules.specs.Run.{by_word, turn_of}
use Rattle.run_rules.specs.StuckForGood.{waiting}
use Rattle.run_rules.specs.StuckSays.{word_of, Says}
use Rattle.run_rules.proofs.Threads.{each_thread, two_threads, own_or_other}
use Rattle.run_rules.proofs.Turning.{turn_moved}
use Rattle.run_rules.proofs.Moving.{moves, same_word}
use Rattle.run_rules.proofs.Waiting.{Waits, turn_waits, turn_moves}

-- ---- the last stalls, thread by thread
stall_own : (l : Stalls) (x : Stall) (n : ℕ) → n < 3 → stall_of (with_stall l n x) n ≡ x
unfolding with_stall
stall_own l x = each_thread (λ n. stall_of (with_stall l n x) n ≡ x) refl refl refl

stall_other : (l : Stalls) (x : Stall) (n t : ℕ) → n < 3 → t < 3 → (t ≡ n → ⊥) → stall_of (with_stall l n x) t ≡ stall_of l t
unfolding with_stall
stall_other l x = two_threads (λ n t. stall_of (with_stall l n x) t ≡ stall_of l t) refl refl refl refl refl refl

after_other : (o : Told Progress) (l : Stalls) (n t : ℕ) → n < 3 → t < 3 → (t ≡ n → ⊥) → stall_of (stalls_after o n l) t ≡ stall_of l t
unfolding stalls_after
after_other (accepted idle) l n t h k d = refl
after_other (accepted passed) l n t h k d = stall_other l unstalled n t h k d
after_other (accepted (stalled a b)) l n t h k d = stall_other l (stalled_by a b) n t h k d
after_other (refused a vs) l n t h k d = refl

-- ---- a word that is offered and waits is stalled
record Stands (o : Told Progress) : Type 0 where
  number : ℕ
  cause : ℕ
  is : o ≡ accepted (stalled number cause)

module _ (m : Machine) (t : ℕ) where
  gated_stands : (i : Instruction) (g : Gate) → waiting (by_gate m t i g).outcome ≡ true → Stands (by_gate m t i g).outcome
  gated_stands i Open h = let z : ◌≡◌ {A = ℕ} 0 1 = cc in absurd (omega arith)
  gated_stands i (Closed n cause) h = record { number = n; cause = cause; is = refl }

  decoded_stands : (d : Told Instruction) → waiting (by_decoded m t d).outcome ≡ true → Stands (by_decoded m t d).outcome
  unfolding gated_of
  decoded_stands (accepted i) h = gated_stands i (gate_of m.control t i) h
  decoded_stands (refused n vs) h = let z : ◌≡◌ {A = ℕ} 0 1 = cc in absurd (omega arith)

  offer_stands : (w : ℕ) → waiting (offer_of m t w).outcome ≡ true → Stands (offer_of m t w).outcome
  unfolding offer_of
  offer_stands w h = decoded_stands (decode_of w) h

-- a thread of which that is said is idle or stalled in its turn
pub says_waits : (s : Streams) (m : Machine) (c : Cursor) (x : Stall) → Says m c.next (next_word s c) x → Waits s m c
unfolding turn_of
says_waits s m c x = go (next_word s c)
  where
    go : (o : Option ℕ) → Says m c.next o x → waiting (by_word m c o).outcome ≡ true
    go None y = refl
    go (Some w) y = rw y.offered

-- ---- before each turn
-- turns since thread t's last turn, where n is next
abbrev since : ℕ → ℕ → ℕ
since n t = cond (eqb t n) 2 (cond (eqb t (following n)) 1 0)

since_on : (n t : ℕ) → n < 3 → t < 3 → (t ≡ n → ⊥) → since (following n) t ≡ suc (since n t)
unfolding following
since_on = two_threads (λ n t. since (following n) t ≡ suc (since n t)) refl refl refl refl refl refl

-- after `quiet` turns in a row without a passed word
pub record Said (s : Streams) (m : Machine) (c : Cursor) (l : Stalls) (quiet : ℕ) : Type 0 where
  -- a thread whose stream is used up has no last stall
  clear : (t : ℕ) → t < 3 → word_of s c t ≡ None → stall_of l t ≡ unstalled
  -- the threads of these turns
  says : (t : ℕ) → t < 3 → since c.next t < quiet → Says m t (word_of s c t) (stall_of l t)

pub said_start : (s : Streams) (m : Machine) (c : Cursor) → Said s m c no_stalls 0
said_start s m c =
    record {
      clear = λ t h e. each_thread (λ t. stall_of no_stalls t ≡ unstalled) refl refl refl t h;
      says = λ t h k. absurd (omega arith);
    }

-- after three such turns all threads
pub said_three : (s : Streams) (m : Machine) (c : Cursor) (l : Stalls) (quiet : ℕ) → Said s m c l quiet → 3 ≤ quiet → (t : ℕ) → t < 3 → Says m t (word_of s c t) (stall_of l t)
said_three s m c l quiet x k t h = x.says t h (omega (arith, since_few (eqb t c.next) (eqb t (following c.next))))
  where
    since_few : (a b : Bool) → cond a 2 (cond b 1 0) < 3
    since_few true b = omega arith
    since_few false true = omega arith
    since_few false false = omega arith

idle_turn : (s : Streams) (m : Machine) (c : Cursor) → next_word s c ≡ None → (turn_of s m c).outcome ≡ accepted idle
unfolding turn_of
idle_turn s m c e = rw e

module _ (s : Streams) (m : Machine) (c : Cursor) (l : Stalls) (quiet : ℕ) (h : c.next < 3) (x : Said s m c l quiet) where
  clear_own : (o : Told Progress) → (turn_of s m c).outcome ≡ o → word_of s (moved_of o c) c.next ≡ None → stall_of (stalls_after o c.next l) c.next ≡ unstalled
  unfolding moved_of onward_of stalls_after
  clear_own (accepted idle) e w = x.clear c.next h w
  clear_own (accepted passed) e w = stall_own l unstalled c.next h
  clear_own (accepted (stalled n cause)) e w =
      let i : (turn_of s m c).outcome ≡ accepted idle = idle_turn s m c w in
      let z : ◌≡◌ {A = ℕ} 0 1 = cc in absurd (omega arith)
  clear_own (refused n vs) e w = x.clear c.next h w

  clear_turn : (o : Told Progress) → (turn_of s m c).outcome ≡ o → (t : ℕ) → t < 3 → word_of s (moved_of o c) t ≡ None → stall_of (stalls_after o c.next l) t ≡ unstalled
  clear_turn o e t k =
      let f = moved_of o c in
      own_or_other (λ u. word_of s f u ≡ None → stall_of (stalls_after o c.next l) u ≡ unstalled) c.next t (clear_own o e)
      (λ d w.
      let same = same_word s (cursor c.at0 c.at1 c.at2 t) (cursor f.at0 f.at1 f.at2 t) refl ((moves o c h).others t k d) in
      after_other o l c.next t h k d ∙ x.clear t k (sym same.word ∙ w))

  says_own : Waits s m c → Says m c.next (next_word s c) (stall_of (stalls_after (turn_of s m c).outcome c.next l) c.next)
  unfolding turn_of stalls_after
  says_own = go (next_word s c) refl
    where
      go : (w : Option ℕ) → next_word s c ≡ w → waiting (by_word m c w).outcome ≡ true →
          Says m c.next w (stall_of (stalls_after (by_word m c w).outcome c.next l) c.next)
      go None e y = x.clear c.next h e
      go (Some w) e y =
          let z = offer_stands m c.next w y in
          record { number = z.number; cause = z.cause; last = rw z.is (stall_own l (stalled_by z.number z.cause) c.next h); offered = z.is }

  says_on : Waits s m c → (t : ℕ) → t < 3 → since (following c.next) t < quiet + 1 →
      Says m t (word_of s c t) (stall_of (stalls_after (turn_of s m c).outcome c.next l) t)
  says_on w t k =
      own_or_other (λ u. since (following c.next) u < quiet + 1 → Says m u (word_of s c u) (stall_of (stalls_after (turn_of s m c).outcome c.next l) u)) c.next t
      (λ y. says_own w)
      (λ d y. rw (after_other (turn_of s m c).outcome l c.next t h k d) (x.says t k (omega (arith, y, since_on c.next t h k d))))

  says_waiting : Waits s m c → (t : ℕ) → t < 3 → since (turn_of s m c).cursor.next t < quiet + 1 →
      Says (turn_of s m c).after t (word_of s (turn_of s m c).cursor t) (stall_of (stalls_after (turn_of s m c).outcome c.next l) t)
  unfolding onward_of
  says_waiting w = rw (turn_waits s m c w, turn_moves s m c w) (says_on w)

  pub said_turn : refused_word (turn_of s m c).outcome ≡ goes_on →
      Said s (turn_of s m c).after (turn_of s m c).cursor (stalls_after (turn_of s m c).outcome c.next l) (quiet_after (turn_of s m c).outcome quiet)
  unfolding quiet_after refused_word
  said_turn on = record { clear = rw (turn_moved s m c) (clear_turn (turn_of s m c).outcome refl); says = go (turn_of s m c).outcome refl on }
    where
      go : (o : Told Progress) → (turn_of s m c).outcome ≡ o → refused_word o ≡ goes_on → (t : ℕ) → t < 3 → since (turn_of s m c).cursor.next t < quiet_after o quiet →
          Says (turn_of s m c).after t (word_of s (turn_of s m c).cursor t) (stall_of (stalls_after (turn_of s m c).outcome c.next l) t)
      go (accepted idle) e y = says_waiting (ap waiting e)
      go (accepted passed) e y = λ t k z. absurd (omega arith)
      go (accepted (stalled n cause)) e y = says_waiting (ap waiting e)
      go (refused n vs) e y = let z : ◌≡◌ {A = ℕ} 0 1 = cc in absurd (omega arith)
