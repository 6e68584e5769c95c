-- A test that antt computes at each number below a limit, and what it shows.
use Prim.Native.Nat.{ℕ, zero, suc, ◌<◌}
use mathlib.Core.Path.{◌≡◌, refl}
use mathlib.Core.Bool.{Bool, true, false, beq, ◌&&◌}
use native.Mathlib.Nat.{not-suc-le-zero}
use native.Mathlib.Decide.{dec_lt}
use native.Mathlib.Omega.{arith}
use Rattle.bits.proofs.Choices.{and_left, and_right}

-- the test f passes at each number below n
abbrev pub below : (ℕ → Bool) → ℕ → Bool
below f zero = true
below f (suc n) = f n && below f n

pub below_at : (f : ℕ → Bool) (n k : ℕ) → below f n ≡ true → k < n → f k ≡ true
below_at f zero k t h = absurd (not-suc-le-zero h)
below_at f (suc n) k t h =
    elim (dec_lt k n) [
      | yes l ↦ below_at f n k (and_right (f n) (below f n) t) l
      | no g ↦ let e : k ≡ n = omega (arith, g) in rw e (and_left (f n) (below f n) t)
    ]

pub beq_true : (a b : Bool) → beq a b ≡ true → a ≡ b
beq_true true true t = refl
beq_true true false t = cc
beq_true false true t = cc
beq_true false false t = refl
