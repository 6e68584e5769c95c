-- Laws of lists that are made cell by cell of others.
use Prim.Native.Nat.{ℕ, suc, ◌<◌}
use mathlib.Core.List.{List, [], ◌∷◌, map, zip_with}
use mathlib.Core.Path.{◌≡◌, refl}
use native.Mathlib.Omega.{arith}
use lib.ListN.{length, get_or}
use Rattle.bench_cells.specs.Cells.{wide_cell, wide_cells}

-- a list whose every cell is made of those of two others
pub wide_each : (a b l : List ℕ) → length a ≡ length l → length b ≡ length l →
    ((k : ℕ) → k < length l → get_or l k 0 ≡ wide_cell (get_or a k 0) (get_or b k 0)) → l ≡ wide_cells a b
unfolding zip_with
wide_each [] [] [] p q h = refl
wide_each [] (y ∷ b) [] p q h = absurd (omega arith)
wide_each (x ∷ a) b [] p q h = absurd (omega arith)
wide_each [] b (z ∷ l) p q h = absurd (omega arith)
wide_each (x ∷ a) [] (z ∷ l) p q h = absurd (omega arith)
wide_each (x ∷ a) (y ∷ b) (z ∷ l) p q h =
    let e : z ≡ wide_cell x y = h 0 (omega arith) in
    let f : l ≡ wide_cells a b = wide_each a b l (omega arith) (omega arith) (λ k m. h (suc k) (omega arith)) in
    rw (e, ← f) refl

-- a list whose every cell is made of that of another
pub map_each : (f : ℕ → ℕ) (a l : List ℕ) → length a ≡ length l → ((k : ℕ) → k < length l → get_or l k 0 ≡ f (get_or a k 0)) → l ≡ map f a
map_each f [] [] p h = refl
map_each f [] (z ∷ l) p h = absurd (omega arith)
map_each f (x ∷ a) [] p h = absurd (omega arith)
map_each f (x ∷ a) (z ∷ l) p h =
    let e : z ≡ f x = h 0 (omega arith) in
    let g : l ≡ map f a = map_each f a l (omega arith) (λ k m. h (suc k) (omega arith)) in
    rw (e, ← g) refl
