-- The words of the three threads, as they were read.
use Prim.Native.Nat.{ℕ, zero, suc, ◌+◌, ◌*◌}
use mathlib.Core.Path.{◌≡◌, refl, ap, ◌∙◌}
use mathlib.Core.List.{List, ◌++◌}
use native.Mathlib.Omega.{arith}
use lib.ListN.{length, take, drop}
use lib.Seq.{take_at}
use Rattle.bits.specs.Bytes.{le}
use Rattle.format.specs.Format.{many_get, head_bytes}
use Rattle.run_order.specs.Cursor.{streams}
use Rattle.program_records.specs.declared.counts.Counts.{Counts}
use Rattle.program_records.specs.Counts.{body1, body2, words_at, streams_of}

many_long : (bs : List ℕ) (n : ℕ) → length (many_get (le 4) 4 n bs) ≡ n
unfolding many_get
many_long bs zero = refl
many_long bs (suc n) = ap suc (many_long (drop 4 bs) n)

-- the words read from a place, in front of what else the slice holds
pub first_read : (bs w rest : List ℕ) (at k n : ℕ) → w ≡ many_get (le 4) 4 k (drop at bs) → k ≡ n → take n (w ++ rest) ≡ words_at bs at n
first_read bs w rest at k n e h =
    let g : w ≡ words_at bs at n = e ∙ rw h in
    let long : length (words_at bs at n) ≡ n = many_long (drop at bs) n in
    rw g (take_at (words_at bs at n) rest n long)

pub all_read : (bs : List ℕ) (c : Counts) {w0 w1 w2 : List ℕ} → w0 ≡ words_at bs head_bytes c.n0 →
    w1 ≡ words_at bs (2 * head_bytes + 4 * c.n0) c.n1 →
    w2 ≡ words_at bs (3 * head_bytes + 4 * c.n0 + 4 * c.n1) c.n2 → streams w0 w1 w2 ≡ streams_of bs c
all_read bs c e0 e1 e2 =
    let q1 : 2 * head_bytes + 4 * c.n0 ≡ body1 c = omega arith in
    let q2 : 3 * head_bytes + 4 * c.n0 + 4 * c.n1 ≡ body2 c = omega arith in
    rw (e0, e1, e2, q1, q2)
