-- A list by the value at each place.
use Rattle.std.specs.Prelude.{ℕ, zero, suc, ◌+◌, List, [], ◌∷◌}

-- the n values of f from i on
unfoldable pub values : {A : Type 0} → ℕ → ℕ → (ℕ → A) → List A
values i zero f = []
values i (suc n) f = f i ∷ values (i + 1) n f
