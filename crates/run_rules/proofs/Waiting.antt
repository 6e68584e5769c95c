-- A turn that is idle or stalled leaves the machine as it is and goes on to the following thread.
use Prim.Native.Nat.{ℕ, ◌+◌}
use mathlib.Core.Path.{◌≡◌, refl}
use mathlib.Core.Bool.{true, false}
use native.Mathlib.Omega.{arith}
use Rattle.machine.specs.Machine.{Machine}
use Rattle.machine.specs.Answers.{Told, accepted, refused}
use Rattle.machine.specs.Outcomes.{Progress, idle, passed, stalled, has_passed}
use Rattle.step_rules.specs.Step.{offer_of}
use Rattle.step_rules.proofs.Unchanged.{offer_unchanged}
use Rattle.run_order.specs.declared.cursor.Cursor.{Cursor}
use Rattle.std.specs.Prelude.{Option, Some, None}
use Rattle.run_order.specs.Cursor.{Streams, next_word, onward_of, moved_of}
use Rattle.run_order.specs.Ending.{refused_word, quiet_after, goes_on}
use Rattle.run_rules.specs.Run.{by_word, turn_of}
use Rattle.run_rules.specs.StuckForGood.{waiting}

-- what a turn with such an outcome does to the cursor and to the count of turns without a passed word
pub record Waited (o : Told Progress) (c : Cursor) (quiet : ℕ) : Type 0 where
  pub moves : moved_of o c ≡ onward_of c
  pub counts : quiet_after o quiet ≡ quiet + 1
  pub goes : refused_word o ≡ goes_on

pub waited : (o : Told Progress) (c : Cursor) (quiet : ℕ) → waiting o ≡ true → Waited o c quiet
unfolding moved_of quiet_after refused_word
waited (accepted idle) c quiet h = record { moves = refl; counts = refl; goes = refl }
waited (accepted passed) c quiet h = let z : ◌≡◌ {A = ℕ} 0 1 = cc in absurd (omega arith)
waited (accepted (stalled k cause)) c quiet h = record { moves = refl; counts = refl; goes = refl }
waited (refused n vs) c quiet h = let z : ◌≡◌ {A = ℕ} 0 1 = cc in absurd (omega arith)

abbrev pub Waits : Streams → Machine → Cursor → Type 0
Waits s m c = waiting (turn_of s m c).outcome ≡ true

waiting_quiet : (o : Told Progress) → waiting o ≡ true → has_passed o ≡ false
waiting_quiet (accepted idle) h = refl
waiting_quiet (accepted passed) h = let z : ◌≡◌ {A = ℕ} 0 1 = cc in absurd (omega arith)
waiting_quiet (accepted (stalled k cause)) h = refl
waiting_quiet (refused n vs) h = refl

-- a turn without a passed word
pub turn_keeps : (s : Streams) (m : Machine) (c : Cursor) → has_passed (turn_of s m c).outcome ≡ false → (turn_of s m c).after ≡ m
unfolding turn_of
turn_keeps s m c h = go (next_word s c) h
  where
    go : (o : Option ℕ) → has_passed (by_word m c o).outcome ≡ false → (by_word m c o).after ≡ m
    go None e = refl
    go (Some w) e = offer_unchanged m c.next w e

pub turn_waits : (s : Streams) (m : Machine) (c : Cursor) → Waits s m c → (turn_of s m c).after ≡ m
turn_waits s m c h = turn_keeps s m c (waiting_quiet (turn_of s m c).outcome h)

pub turn_moves : (s : Streams) (m : Machine) (c : Cursor) → Waits s m c → (turn_of s m c).cursor ≡ onward_of c
unfolding turn_of
turn_moves s m c h = go (next_word s c) h
  where
    go : (o : Option ℕ) → waiting (by_word m c o).outcome ≡ true → (by_word m c o).cursor ≡ onward_of c
    go None e = (waited (accepted idle) c 0 refl).moves
    go (Some w) e = (waited (offer_of m c.next w).outcome c 0 e).moves
