-- Numbers as digits of a base.
use Rattle.std.specs.Prelude.{ℕ, zero, suc, ◌/◌, ◌%◌, List, [], ◌∷◌, ◌++◌}

-- the last k digits of a number in a base, where `byte` tells each digit
unfoldable pub last_digits_in : ℕ → (ℕ → ℕ) → ℕ → ℕ → List ℕ
last_digits_in base byte zero n = []
last_digits_in base byte (suc k) n = last_digits_in base byte k (n / base) ++ (byte (n % base) ∷ [])
