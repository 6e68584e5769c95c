-- Decimal numbers as bytes, 48 to 57, without leading zeros.
use Rattle.std.specs.Prelude.{ℕ, zero, suc, ◌+◌, ◌/◌, ◌%◌, cond, List, [], ◌∷◌, ◌++◌, ltb}

-- how many digits n has, of at most k
unfoldable pub digit_count : ℕ → ℕ → ℕ
digit_count zero n = 0
digit_count (suc k) n = cond (ltb n 10) 1 (1 + digit_count k (n / 10))

-- the last k digits
unfoldable pub last_digits : ℕ → ℕ → List ℕ
last_digits zero n = []
last_digits (suc k) n = last_digits k (n / 10) ++ ((n % 10 + 48) ∷ [])

-- the most digits of a number of 64 bits
abbrev pub digits_most : ℕ
digits_most = 20

abbrev pub decimal : ℕ → List ℕ
decimal n = last_digits (digit_count digits_most n) n
