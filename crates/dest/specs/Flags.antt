-- The flags of the Dest maps.
use Rattle.std.specs.Prelude.{ℕ, Bool}
use Rattle.bits.specs.Field.{flag}
use Rattle.dest.specs.declared.flags.Flags.{Flags}

abbrev pub flags : Bool → Bool → Flags
flags m z = record { remap = m; swizzle = z }

-- the Config word of a bank that holds them
abbrev pub flag_word : ℕ
flag_word = 255

-- bit 0 is remap, bit 1 swizzle
abbrev pub flags_of : ℕ → Flags
flags_of word = flags (flag 0 word) (flag 1 word)
