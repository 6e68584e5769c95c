-- Bits of a number, by place and width.
use Rattle.std.specs.Prelude.{ℕ, ◌+◌, ◌*◌, ◌/◌, ◌%◌, ◌^◌, Bool, eqb}

-- the n bits of w from bit i on: bits 16–21 are `field 16 6`
abbrev pub field : ℕ → ℕ → ℕ → ℕ
field i n w = w / 2 ^ i % 2 ^ n

-- whether bit i of w is set
abbrev pub flag : ℕ → ℕ → Bool
flag i w = eqb (field i 1 w) 1

-- whether bit 0 of w is set: the bit that a loop over a mask looks at before it halves the mask
abbrev pub low_bit : ℕ → Bool
low_bit w = eqb (w % 2) 1

-- n rounded down to a multiple of 4
abbrev pub down_to_four : ℕ → ℕ
down_to_four n = n / 4 * 4

-- a 32-bit word x with its low 16 bits replaced by v
abbrev pub with_low : ℕ → ℕ → ℕ
with_low v x = field 16 16 x * 65536 + v

-- a 32-bit word x with its high 16 bits replaced by v
abbrev pub with_high : ℕ → ℕ → ℕ
with_high v x = v * 65536 + field 0 16 x

-- a word x with byte k, the lowest being 0, replaced by b
unfoldable pub with_byte : ℕ → ℕ → ℕ → ℕ
with_byte k b x = x / 256 ^ (k + 1) * 256 ^ (k + 1) + b * 256 ^ k + x % 256 ^ k
