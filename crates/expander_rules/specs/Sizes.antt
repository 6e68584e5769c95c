-- How many there are of each thing of the expander (document 01, "Expander"; document 02, K1), and the largest numbers. A number is said
-- here alone.
use Rattle.std.specs.Prelude.{ℕ, ◌*◌}

-- the nine words m0 to m8
abbrev pub nine_count : ℕ
nine_count = 9

-- m0 and m1 of a template 1 MOP, its rounds
abbrev pub rounds_most : ℕ
rounds_most = 127

-- the mask's bits, one a round of template 0
abbrev pub mask_bits : ℕ
mask_bits = 32

-- "32 slots"
abbrev pub slot_count : ℕ
slot_count = 32

-- "Fresh slots hold NOP, 0x02000000"
abbrev pub nop_word : ℕ
nop_word = 0x02000000

-- the most words that a call may need
abbrev pub needed_most : ℕ
needed_most = 65536

-- for internal contracts: the most words of a part of a MOP, which is 128 rounds of five words in template 0; an outer round of
-- template 1 has at most 257
abbrev pub part_most : ℕ
part_most = 128 * 5
