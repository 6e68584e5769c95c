-- The three threads: what is so of 0, 1 and 2 is so of each.
use Prim.Native.Nat.{ℕ, zero, suc, ◌<◌}
use mathlib.Core.Path.{◌≡◌, refl}
use mathlib.Core.Bool.{Bool, true, false}
use native.Mathlib.Omega.{arith}
use lib.Dec.{eqb}
use borrow.Author.Tests.{eqb-true, eqb-false}
use Rattle.run_order.specs.Cursor.{following}

pub each_thread : (P : ℕ → Type 0) → P 0 → P 1 → P 2 → (t : ℕ) → t < 3 → P t
each_thread P a b d zero h = a
each_thread P a b d (suc zero) h = b
each_thread P a b d (suc (suc zero)) h = d
each_thread P a b d (suc (suc (suc t))) h = absurd (omega arith)

-- of two that differ
pub two_threads : (P : ℕ → ℕ → Type 0) → P 0 1 → P 0 2 → P 1 0 → P 1 2 → P 2 0 → P 2 1 → (n t : ℕ) → n < 3 → t < 3 → (t ≡ n → ⊥) → P n t
two_threads P a b d e f g n t h k =
    each_thread (λ u. (t ≡ u → ⊥) → P u t)
    (each_thread (λ v. (v ≡ 0 → ⊥) → P 0 v) (λ x. absurd (x refl)) (λ x. a) (λ x. b) t k)
    (each_thread (λ v. (v ≡ 1 → ⊥) → P 1 v) (λ x. d) (λ x. absurd (x refl)) (λ x. e) t k)
    (each_thread (λ v. (v ≡ 2 → ⊥) → P 2 v) (λ x. f) (λ x. g) (λ x. absurd (x refl)) t k)
    n h

-- one thread and the others
pub own_or_other : (P : ℕ → Type 0) (n t : ℕ) → P n → ((t ≡ n → ⊥) → P t) → P t
own_or_other P n t own other = go (eqb t n) refl
  where
    go : (b : Bool) → eqb t n ≡ b → P t
    go true e = rw (eqb-true t n e) own
    go false e = other (eqb-false t n e)

-- after three threads it is the first one's turn again
pub threads_round : (t : ℕ) → t < 3 → following (following (following t)) ≡ t
unfolding following
threads_round = each_thread (λ t. following (following (following t)) ≡ t) refl refl refl

pub other_thread : (t : ℕ) → t < 3 → t ≡ following t → ⊥
unfolding following
other_thread = each_thread (λ t. t ≡ following t → ⊥) (λ e. omega (arith, e)) (λ e. omega (arith, e)) (λ e. omega (arith, e))

pub third_thread : (t : ℕ) → t < 3 → t ≡ following (following t) → ⊥
unfolding following
third_thread = each_thread (λ t. t ≡ following (following t) → ⊥) (λ e. omega (arith, e)) (λ e. omega (arith, e)) (λ e. omega (arith, e))
