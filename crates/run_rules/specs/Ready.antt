-- What a call that is not refused has, and what each turn keeps. It serves the contracts of the code and the proofs.
use Rattle.std.specs.Prelude.{ℕ, ◌≤◌, ◌<◌, ◌≡◌, true, List, length}
use Rattle.machine.specs.Sizes.{stream_most, thread_count}
use Rattle.machine.specs.Machine.{Machine}
use Rattle.machine.specs.Formed.{well_formed}
use Rattle.run_order.specs.declared.cursor.Cursor.{Cursor}
use Rattle.run_order.specs.Cursor.{Streams}

-- no stream is too long
pub record Lengths (s : Streams) : Type 0 where
  pub long0 : length s.s0 ≤ stream_most
  pub long1 : length s.s1 ≤ stream_most
  pub long2 : length s.s2 ≤ stream_most

-- the cursor lies within its streams
pub record Within (s : Streams) (c : Cursor) : Type 0 where
  pub at0 : c.at0 ≤ length s.s0
  pub at1 : c.at1 ≤ length s.s1
  pub at2 : c.at2 ≤ length s.s2
  pub thread : c.next < thread_count

pub record Ready (s : Streams) (m : Machine) (c : Cursor) : Type 0 where
  pub whole : well_formed m ≡ true
  pub lengths : Lengths s
  pub within : Within s c

-- the same of a machine of which Dest's cells are not lent: it is ready with some cells
pub record ReadyApart (s : Streams) (m : List ℕ → Machine) (c : Cursor) : Type 0 where
  pub cells : List ℕ
  pub ready : Ready s (m cells) c
