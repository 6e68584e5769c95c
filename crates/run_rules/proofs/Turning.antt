-- One turn: what the code makes of it, and what it keeps.
use Prim.Native.Nat.{ℕ, ◌+◌, ◌<◌}
use mathlib.Core.Path.{◌≡◌, refl}
use mathlib.Core.Bool.{Bool, true, false, cond}
use mathlib.Core.List.{List}
use native.Mathlib.Omega.{arith}
use lib.Dec.{ltb, eqb}
use lib.ListN.{length, get_or}
use borrow.Author.Tests.{ltb-true}
use Rattle.machine.specs.Machine.{Machine}
use Rattle.machine.specs.Answers.{Told, accepted, refused}
use Rattle.machine.specs.Outcomes.{Progress, idle, passed, stalled}
use Rattle.step_rules.specs.Step.{offer_of}
use Rattle.step_rules.proofs.Kept.{offer_kept}
use Rattle.run_order.specs.declared.cursor.Cursor.{Cursor}
use Rattle.std.specs.Prelude.{Option, Some, None}
use Rattle.run_order.specs.Cursor.{Streams, word_at, next_word, cursor, following, onward_of, past_of, moved_of}
use Rattle.run_rules.specs.Run.{by_word, turn_of}
use Rattle.run_rules.specs.Ready.{Within, Ready}

-- the cursor after a turn is its outcome's
pub turn_moved : (s : Streams) (m : Machine) (c : Cursor) → (turn_of s m c).cursor ≡ moved_of (turn_of s m c).outcome c
unfolding turn_of
turn_moved s m c = go (next_word s c)
  where
    go : (o : Option ℕ) → (by_word m c o).cursor ≡ moved_of (by_word m c o).outcome c
    go None = refl
    go (Some w) = refl

following_lt : (t : ℕ) → following t < 3
unfolding following
following_lt t = go (ltb t 2) refl
  where
    go : (b : Bool) → ltb t 2 ≡ b → cond b (t + 1) 0 < 3
    go true e = omega (arith, ltb-true t 2 e)
    go false e = omega arith

pub onward_within : (s : Streams) (c : Cursor) → Within s c → Within s (onward_of c)
unfolding onward_of
onward_within s c w = record { at0 = w.at0; at1 = w.at1; at2 = w.at2; thread = following_lt c.next }

-- where a word stands, the position is not at the end
word_lt : (l : List ℕ) (i w : ℕ) → word_at l i ≡ Some w → i < length l
unfolding word_at
word_lt l i w e = go (ltb i (length l)) refl e
  where
    go : (b : Bool) → ltb i (length l) ≡ b → cond b (Some (get_or l i 0)) None ≡ Some w → i < length l
    go true eb h = ltb-true i (length l) eb
    go false eb h = let z : ◌≡◌ {A = ℕ} 0 1 = cc in absurd (omega arith)

past_within : (s : Streams) (c : Cursor) (w : ℕ) → next_word s c ≡ Some w → Within s c → Within s (past_of c)
unfolding next_word past_of
past_within s c w e r = go (eqb c.next 0) (eqb c.next 1) e
  where
    t : ℕ
    t = following c.next

    go : (x y : Bool) →
        cond x (word_at s.s0 c.at0) (cond y (word_at s.s1 c.at1) (word_at s.s2 c.at2)) ≡ Some w →
        Within s
        (cond x (cursor (c.at0 + 1) c.at1 c.at2 t)
        (cond y (cursor c.at0 (c.at1 + 1) c.at2 t)
        (cursor c.at0 c.at1 (c.at2 + 1) t)))
    go true y h =
        record { at0 = omega (arith, word_lt s.s0 c.at0 w h); at1 = r.at1; at2 = r.at2; thread = following_lt c.next }
    go false true h =
        record { at0 = r.at0; at1 = omega (arith, word_lt s.s1 c.at1 w h); at2 = r.at2; thread = following_lt c.next }
    go false false h =
        record { at0 = r.at0; at1 = r.at1; at2 = omega (arith, word_lt s.s2 c.at2 w h); thread = following_lt c.next }

moved_within : (s : Streams) (c : Cursor) (w : ℕ) (o : Told Progress) → next_word s c ≡ Some w → Within s c → Within s (moved_of o c)
unfolding moved_of
moved_within s c w (accepted idle) e r = onward_within s c r
moved_within s c w (accepted passed) e r = past_within s c w e r
moved_within s c w (accepted (stalled k cause)) e r = onward_within s c r
moved_within s c w (refused n vs) e r = r

-- a turn keeps the machine well formed and the cursor within its streams
pub turn_ready : (s : Streams) (m : Machine) (c : Cursor) → Ready s m c → Ready s (turn_of s m c).after (turn_of s m c).cursor
unfolding turn_of moved_of
turn_ready s m c r = go (next_word s c) refl
  where
    go : (o : Option ℕ) → next_word s c ≡ o → Ready s (by_word m c o).after (by_word m c o).cursor
    go None e = record { whole = r.whole; lengths = r.lengths; within = onward_within s c r.within }
    go (Some w) e =
        record {
          whole = offer_kept m c.next w r.within.thread r.whole;
          lengths = r.lengths;
          within = moved_within s c w (offer_of m c.next w).outcome e r.within;
        }
