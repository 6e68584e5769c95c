-- A record at a place of the input, where the numbers read there go by names.
use Prim.Native.Nat.{ℕ, ◌+◌, ◌-◌, ◌≤◌, ◌<◌}
use mathlib.Core.Path.{◌≡◌}
use mathlib.Core.Bool.{true, false, cond}
use mathlib.Core.List.{List}
use native.Mathlib.Nat.{add_assoc}
use native.Mathlib.Decide.{dec_le}
use native.Mathlib.Omega.{arith}
use lib.Dec.{leb, eqb}
use lib.ListN.{length, drop, length-drop}
use lib.Seq.{drop-drop}
use borrow.Author.Tests.{le-leb, lt-leb}
use Rattle.std.specs.Prelude.{Some, None}
use Rattle.bits.specs.Bytes.{le}
use Rattle.format.specs.Format.{head_bytes}
use Rattle.program_records.specs.Head.{body_of}

-- whether so many bytes are there from a place on
room_yes : (s : List ℕ) (at n : ℕ) → at + n ≤ length s → leb n (length (drop at s)) ≡ true
room_yes s at n h = let e : n ≤ length s - at = omega arith in rw length-drop (le-leb n (length s - at) e)

room_no : (s : List ℕ) (at n : ℕ) → 0 < n → length s < at + n → leb n (length (drop at s)) ≡ false
room_no s at n p h = let e : length s - at < n = omega arith in rw length-drop (lt-leb n (length s - at) e)

room_same : (s : List ℕ) (at n : ℕ) → at ≤ length s → leb n (length (drop at s)) ≡ leb (at + n) (length s)
room_same s at n h =
    elim (dec_le (at + n) (length s)) [
      | yes k ↦ rw (room_yes s at n k, le-leb (at + n) (length s) k)
      | no k ↦ rw (room_no s at n (omega arith) (omega arith), lt-leb (at + n) (length s) (omega arith))
    ]

pub no_head : (s : List ℕ) (at kind most : ℕ) → length s < at + head_bytes → None ≡ body_of kind most (drop at s)
unfolding body_of
no_head s at kind most h = rw (room_no s at head_bytes (omega arith) h)

-- the tests of a record whose head is there
pub body_is : (s : List ℕ) (at kind most : ℕ) → at + head_bytes ≤ length s → body_of kind most (drop at s) ≡
    cond (eqb (le 2 (drop (at + 4) s)) kind)
    (cond (leb (le 4 (drop at s)) most) (cond (leb (at + head_bytes + le 4 (drop at s)) (length s)) (Some (le 4 (drop at s))) None) None) None
unfolding body_of
body_is s at kind most long =
    rw (room_yes s at head_bytes long, drop-drop 4 at s, room_same s at (head_bytes + le 4 (drop at s)) (omega arith), ← add_assoc at head_bytes (le 4 (drop at s)))
