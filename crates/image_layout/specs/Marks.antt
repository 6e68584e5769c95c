-- Dest's valid marks, eight to a byte: row r at bit r mod 8 of byte r / 8.
use Rattle.std.specs.Prelude.{ℕ, zero, suc, ◌+◌, ◌*◌, ◌/◌, ◌≡◌, Bool, cond, List, [], ◌∷◌, ◌++◌, length, take, drop}
use Rattle.bits.specs.Field.{low_bit}
use Rattle.format.specs.Format.{Format, num, many, via_on}

abbrev pub bit : Bool → ℕ
bit b = cond b 1 0

-- k marks as a number, the first at bit 0, and back
unfoldable pub pack : ℕ → List Bool → ℕ
pack zero l = 0
pack (suc k) [] = 0
pack (suc k) (b ∷ l) = bit b + 2 * pack k l

unfoldable pub unpack : ℕ → ℕ → List Bool
unpack zero n = []
unpack (suc k) n = low_bit n ∷ unpack k (n / 2)

-- eight marks in a byte
abbrev pub eight : Format (List Bool)
eight = via_on (λ l. length l ≡ 8) (unpack 8) (pack 8) (num 1 0 255)

-- a list as n lists of eight, and back
unfoldable pub eights : ℕ → List Bool → List (List Bool)
eights zero l = []
eights (suc n) l = take 8 l ∷ eights n (drop 8 l)

unfoldable pub joined_eights : List (List Bool) → List Bool
joined_eights [] = []
joined_eights (x ∷ l) = x ++ joined_eights l

-- the marks of n * 8 rows, in n bytes
abbrev pub marks_format : ℕ → Format (List Bool)
marks_format n = via_on (λ l. length l ≡ n * 8) joined_eights (eights n) (many n eight)
