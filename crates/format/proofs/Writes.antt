-- Writes in a row: each begins where the one before ended.
use Prim.Native.Nat.{ℕ, ◌+◌, ◌*◌, ◌≤◌}
use mathlib.Core.Path.{◌≡◌, sym, ap, ◌∙◌}
use mathlib.Core.List.{List, ◌++◌}
use lib.ListN.{length}
use Rattle.bits.specs.Bytes.{enc}
use Rattle.bits.specs.Overwrite.{over, Wrote}
use Rattle.bits.proofs.Bytes.{enc_long}
use Rattle.bits.proofs.Overwrite.{wrote_then, wrote_within}
use Rattle.format.specs.Format.{many_put, numbers, head_bytes, head, kind}

-- two writes are one; the second, which may be several in a row itself, is told that its place is within the list
pub wrote_next : {A : Type 0} {l m n a b : List A} {k j i : ℕ} → k ≤ length l → Wrote l k a m j → (j ≤ length m → Wrote m j b n i) → Wrote l k (a ++ b) n i
wrote_next h p q = wrote_then p (q (wrote_within p h)) h

-- the place past it, and its own, by another name
pub wrote_to : {A : Type 0} {l m a : List A} {k j : ℕ} (i : ℕ) → j ≡ i → Wrote l k a m j → Wrote l k a m i
wrote_to i e p = record { placed = sym e ∙ p.placed; list = p.list }

pub wrote_from : {A : Type 0} {l m a : List A} {k j : ℕ} (i : ℕ) → i ≡ k → Wrote l i a m j → Wrote l k a m j
wrote_from i e p = rw e at p

pub wrote_number : {l m : List ℕ} (at w n : ℕ) → m ≡ over l at (enc w n) → Wrote l at (enc w n) m (at + w)
wrote_number at w n e = record { placed = ap (λ (k : ℕ). at + k) (sym (enc_long w n)); list = e }

-- a record of numbers, with a head by the length of the part that has them, which is n
pub wrote_numbers : {o m : List ℕ} (k w hi n at next : ℕ) (l : List ℕ) → length l ≡ n → at + head_bytes + n * w ≡ next →
    Wrote o at ((head (length l * w) k).put (tt, tt) ++ many_put (enc w) l) m (at + head_bytes + length l * w) → Wrote o at ((kind k (numbers n w hi)).put l) m next
wrote_numbers k w hi n at next l e f h = wrote_to next f (rw e at h)
