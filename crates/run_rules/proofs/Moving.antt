-- How a turn moves the cursor, thread by thread.
use Prim.Native.Nat.{ℕ, ◌+◌, ◌<◌}
use mathlib.Core.Path.{◌≡◌, refl, sym, ◌∙◌}
use mathlib.Core.Bool.{Bool, true, false, cond}
use lib.Dec.{eqb}
use Rattle.machine.specs.Machine.{Machine}
use Rattle.machine.specs.Answers.{Told, accepted, refused}
use Rattle.machine.specs.Outcomes.{Progress, idle, passed, stalled, has_passed}
use Rattle.run_order.specs.declared.cursor.Cursor.{Cursor}
use Rattle.run_order.specs.Cursor.{cursor, following, onward_of, past_of, moved_of, Streams, word_at, next_word}
use Rattle.run_rules.specs.Run.{turn_of}
use Rattle.run_rules.specs.OfferedAgain.{position_of, Moves, SameWord}
use Rattle.run_rules.proofs.Threads.{each_thread, two_threads}
use Rattle.run_rules.proofs.Turning.{turn_moved}

-- ---- past a word, thread by thread
past_others : (a b d n t : ℕ) → n < 3 → t < 3 → (t ≡ n → ⊥) → position_of (past_of (cursor a b d n)) t ≡ position_of (cursor a b d n) t
unfolding past_of
past_others a b d = two_threads (λ n t. position_of (past_of (cursor a b d n)) t ≡ position_of (cursor a b d n) t) refl refl refl refl refl refl

past_own : (a b d n : ℕ) → n < 3 → position_of (past_of (cursor a b d n)) n ≡ position_of (cursor a b d n) n + 1
unfolding past_of
past_own a b d = each_thread (λ n. position_of (past_of (cursor a b d n)) n ≡ position_of (cursor a b d n) n + 1) refl refl refl

past_next : (a b d n : ℕ) → n < 3 → (past_of (cursor a b d n)).next ≡ following n
unfolding past_of
past_next a b d = each_thread (λ n. (past_of (cursor a b d n)).next ≡ following n) refl refl refl

onward_moves : (p : Progress) (c : Cursor) → has_passed (accepted p) ≡ false → Moves (accepted p) c (onward_of c)
unfolding onward_of
onward_moves p c e = record { others = λ t h x. refl; own = rw e; next = refl }

pub moves : (o : Told Progress) (c : Cursor) → c.next < 3 → Moves o c (moved_of o c)
unfolding moved_of
moves (accepted idle) c h = onward_moves idle c refl
moves (accepted passed) c h =
    record {
      others = λ t k x. past_others c.at0 c.at1 c.at2 c.next t h k x;
      own = past_own c.at0 c.at1 c.at2 c.next h;
      next = past_next c.at0 c.at1 c.at2 c.next h;
    }
moves (accepted (stalled n cause)) c h = onward_moves (stalled n cause) c refl
moves (refused n vs) c h = record { others = λ t k x. refl; own = refl; next = refl }

pub turn_moves : (s : Streams) (m : Machine) (c : Cursor) → c.next < 3 → Moves (turn_of s m c).outcome c (turn_of s m c).cursor
turn_moves s m c h = rw (turn_moved s m c) (moves (turn_of s m c).outcome c h)

-- ---- a thread's word is that at its position
word_at_lem : (s : Streams) (c : Cursor) (p : ℕ) → position_of c c.next ≡ p →
    next_word s c ≡ cond (eqb c.next 0) (word_at s.s0 p) (cond (eqb c.next 1) (word_at s.s1 p) (word_at s.s2 p))
unfolding next_word
word_at_lem s c p e = rw (← e) (go (eqb c.next 0) (eqb c.next 1))
  where
    go : (x y : Bool) →
        let q = cond x c.at0 (cond y c.at1 c.at2) in
        cond x (word_at s.s0 c.at0) (cond y (word_at s.s1 c.at1) (word_at s.s2 c.at2)) ≡
        cond x (word_at s.s0 q) (cond y (word_at s.s1 q) (word_at s.s2 q))
    go true y = refl
    go false true = refl
    go false false = refl

pub same_word : (s : Streams) (c e : Cursor) → e.next ≡ c.next → position_of e c.next ≡ position_of c c.next → SameWord s c e
same_word s c e n p =
    record {
      thread = n;
      word = word_at_lem s e (position_of c c.next) (rw n p) ∙ rw n (sym (word_at_lem s c (position_of c c.next) refl));
    }
