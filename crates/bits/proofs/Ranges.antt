-- Laws of the tests over every number of a list.
use Prim.Native.Nat.{ℕ, zero, suc, ◌+◌, ◌≤◌, ◌<◌}
use mathlib.Core.Path.{◌≡◌, refl}
use mathlib.Core.Bool.{Bool, true, ◌&&◌}
use mathlib.Core.Logic.{◌↔◌}
use mathlib.Core.List.{List, [], ◌∷◌}
use native.Mathlib.Numerals.{add-one}
use native.Mathlib.Omega.{arith}
use lib.Dec.{leb}
use Rattle.std.specs.Ordering.{ord_max, nat_cmp}
use Rattle.std.proofs.lemmas.Bool.Decides.{nat_tests}
use lib.ListN.{length, get_or, drop, set, replicate}
use lib.Seq.{drop-cons, drop-length}
use borrow.Author.Tests.{leb-true, le-leb}
use Rattle.bits.specs.Ranges.{all_at_most}
use Rattle.bits.proofs.Choices.{and_left, and_right, and_intro, same_tests}
use Rattle.std.specs.List.{All}

-- one turn of a loop over the list, and its end
pub at_most_step : (n : ℕ) (a : List ℕ) (i : ℕ) → i < length a → all_at_most n (drop i a) ≡ (leb (get_or a i 0) n && all_at_most n (drop (i + 1) a))
unfolding all_at_most
at_most_step n a i h = rw (add-one, drop-cons a i 0)

-- the greater of two is at most n where both are
pub at_most_max : (n x y : ℕ) → leb (ord_max nat_cmp x y) n ≡ (leb x n && leb y n)
at_most_max n x y = grind (arith, nat_tests)

pub at_most_end : (n : ℕ) (a : List ℕ) (i : ℕ) → length a ≤ i → i ≤ length a → all_at_most n (drop i a) ≡ true
unfolding all_at_most
at_most_end n a i h k = let e : i ≡ length a = omega arith in rw (e, drop-length)

-- each number is at most n, also past the end, where 0 stands
pub at_most_at : (n : ℕ) (a : List ℕ) (i : ℕ) → all_at_most n a ≡ true → get_or a i 0 ≤ n
unfolding all_at_most
at_most_at n [] i h = omega arith
at_most_at n (x ∷ xs) zero h = leb-true x n (and_left (leb x n) (all_at_most n xs) h)
at_most_at n (x ∷ xs) (suc i) h = at_most_at n xs i (and_right (leb x n) (all_at_most n xs) h)

-- a number in range, stored anywhere, keeps the list in range
pub at_most_set : (n : ℕ) (a : List ℕ) (i v : ℕ) → all_at_most n a ≡ true → v ≤ n → all_at_most n (set a i v) ≡ true
unfolding all_at_most
at_most_set n [] i v h k = refl
at_most_set n (x ∷ xs) zero v h k = and_intro (leb v n) (all_at_most n xs) (le-leb v n k) (and_right (leb x n) (all_at_most n xs) h)
at_most_set n (x ∷ xs) (suc i) v h k =
    and_intro (leb x n) (all_at_most n (set xs i v)) (and_left (leb x n) (all_at_most n xs) h)
    (at_most_set n xs i v (and_right (leb x n) (all_at_most n xs) h) k)

-- where each number is below n + 1
pub at_most_all : (n : ℕ) (a : List ℕ) → ((i : ℕ) → get_or a i 0 ≤ n) → all_at_most n a ≡ true
unfolding all_at_most
at_most_all n [] h = refl
at_most_all n (x ∷ xs) h = and_intro (leb x n) (all_at_most n xs) (le-leb x n (h 0)) (at_most_all n xs (λ i. h (suc i)))

pub at_most_none : (n : ℕ) (a : List ℕ) → length a ≤ 0 → all_at_most n a ≡ true
unfolding all_at_most
at_most_none n [] h = refl
at_most_none n (x ∷ xs) h = absurd (omega arith)

pub at_most_replicate : (n k v : ℕ) → v ≤ n → all_at_most n (replicate k v) ≡ true
unfolding all_at_most
at_most_replicate n zero v h = refl
at_most_replicate n (suc k) v h = and_intro (leb v n) (all_at_most n (replicate k v)) (le-leb v n h) (at_most_replicate n k v h)

-- what the test of the first number says where all are in range by their type
pub fits_all : (n : ℕ) (a : List ℕ) → ((i : ℕ) → get_or a i 0 ≤ n) → leb (get_or a 0 0) n ≡ all_at_most n a
fits_all n a h = rw (at_most_all n a h) (le-leb (get_or a 0 0) n (h 0))

-- the same as a fact of each number
to_each : (n : ℕ) (a : List ℕ) → all_at_most n a ≡ true → All (λ x. x ≤ n) a
unfolding all_at_most
to_each n [] e k d l = absurd (omega arith)
to_each n (x ∷ xs) e zero d l = leb-true x n (and_left (leb x n) (all_at_most n xs) e)
to_each n (x ∷ xs) e (suc k) d l = to_each n xs (and_right (leb x n) (all_at_most n xs) e) k d (omega arith)

of_each : (n : ℕ) (a : List ℕ) → All (λ x. x ≤ n) a → all_at_most n a ≡ true
unfolding all_at_most
of_each n [] h = refl
of_each n (x ∷ xs) h =
    and_intro (leb x n) (all_at_most n xs) (le-leb x n (h 0 0 (omega arith))) (of_each n xs (λ k d l. h (suc k) d (omega arith)))

-- what an iterator's `all` answers
pub all-at_most : (n : ℕ) (a : List ℕ) (r : Bool) → (r ≡ true) ↔ All (λ x. x ≤ n) a → r ≡ all_at_most n a
all-at_most n a r i = same_tests r (all_at_most n a) (λ e. of_each n a (i.0 e)) (λ e. i.1 (to_each n a e))
