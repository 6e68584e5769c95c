-- Numbers of 32 bits as eight hex digits, the letters in upper case.
use Rattle.std.specs.Prelude.{ℕ, ◌+◌, cond, List, ltb}
use Rattle.text.specs.Digits.{last_digits_in}

-- `0` to `9`, `A` to `F`
unfoldable pub hex_digit : ℕ → ℕ
hex_digit d = cond (ltb d 10) (d + 48) (d + 55)

-- how many digits a number of 32 bits has
abbrev pub hex_digits : ℕ
hex_digits = 8

unfoldable pub hex_word : ℕ → List ℕ
hex_word w = last_digits_in 16 hex_digit hex_digits w
