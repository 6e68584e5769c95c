-- The words of the matrix unit, block bit B6, that work on bank owners and pointers: what each says, and what it does to the control
-- part. Bits not named are ignored. Neither waits for an owner.
use Rattle.std.specs.Prelude.{ℕ, ◌-◌, Bool, cond, set, replicate}
use Rattle.bits.specs.Field.{flag}
use Rattle.machine.specs.declared.control.Control.{Control}
use Rattle.machine.specs.Sizes.{bank_count, pointer_count}
use Rattle.machine.specs.Control.{with_banks, matrix_bank, unpack_bank, owner_place, matrix_place, unpack_place}
use Rattle.machine.specs.Answers.{Told, accepted}
use Rattle.word_rules.specs.declared.instruction.BankWord.{BankWord}
use Rattle.word_rules.specs.declared.instruction.BankWord.TheVariants.{ClearDValid, SetDValid}
use Rattle.word_rules.specs.declared.instruction.Instruction.{Instruction}
use Rattle.word_rules.specs.declared.instruction.Instruction.TheVariants.{Bank}

-- ---- what a word says

-- CLEARDVALID: A 22, B 23, keep 1, reset 0
abbrev pub clear_d_valid_of : ℕ → Told Instruction
clear_d_valid_of w = accepted (Bank (ClearDValid (flag 22 w) (flag 23 w) (flag 1 w) (flag 0 w)))

-- SETDVALID: A 0, B 1
abbrev pub set_d_valid_of : ℕ → Told Instruction
set_d_valid_of w = accepted (Bank (SetDValid (flag 0 w) (flag 1 w)))

-- ---- what it does

-- SETDVALID gives the unpack pointer's bank to Matrix and flips that pointer
unfoldable pub give_to_matrix : Control → ℕ → Control
give_to_matrix c file =
    with_banks c (set c.owners (owner_place file (unpack_bank c file)) 1) (set c.pointers (unpack_place file) (1 - unpack_bank c file))

-- CLEARDVALID gives the matrix pointer's bank to Unpackers and flips the matrix pointer unless keep
unfoldable pub give_to_unpackers : Control → ℕ → Bool → Control
give_to_unpackers c file keep =
    with_banks c (set c.owners (owner_place file (matrix_bank c file)) 0)
    (cond keep c.pointers (set c.pointers (matrix_place file) (1 - matrix_bank c file)))

-- reset gives all four banks to Unpackers and sets all pointers to 0
abbrev pub reset_banks : Control → Control
reset_banks c = with_banks c (replicate bank_count 0) (replicate pointer_count 0)

-- each flag acts alone
unfoldable pub set_d_valid_after : Control → Bool → Bool → Control
set_d_valid_after c a b = let d = cond a (give_to_matrix c 0) c in cond b (give_to_matrix d 1) d

-- reset ignores the other flags
unfoldable pub clear_d_valid_after : Control → Bool → Bool → Bool → Bool → Control
clear_d_valid_after c a b keep reset =
    let d = cond a (give_to_unpackers c 0 keep) c in
    cond reset (reset_banks c) (cond b (give_to_unpackers d 1 keep) d)

-- the control part after a word
abbrev pub bank_after : Control → BankWord → Control
bank_after c (ClearDValid a b keep reset) = clear_d_valid_after c a b keep reset
bank_after c (SetDValid a b) = set_d_valid_after c a b
