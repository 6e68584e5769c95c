-- The numbers of refusals and stalls (document 01, "Numbers that come back").
use Rattle.std.specs.Prelude.{ℕ, List, [], ◌∷◌}
use Rattle.machine.specs.declared.refusal.Refusal.{Refusal}
use Rattle.machine.specs.declared.refusal.Refusal.TheVariants.{BadThread, BadWord, BadField, BadLength, BadCursor, BadBudget, BadRounds, ShortOutput, BadImage, Malformed, BadPlace, WrongOwner, BadReplay}
use Rattle.machine.specs.declared.refusal.StallCause.{StallCause}
use Rattle.machine.specs.declared.refusal.StallCause.TheVariants.{WaitHolds, MutexHeld, BankNotMatrix}

abbrev pub number_of : Refusal → ℕ
-- thread not 0–2
number_of BadThread = 1
-- opcode not in the table; signal mode; AddrMod not 0
number_of BadWord = 2
-- Config index over 255; RDCFG GPR over 63; mutex over 7; ZEROACC place past its view
number_of BadField = 3
-- a lent part, not an image or output, of wrong length, or a stream over 65,536 words
number_of BadLength = 4
-- a position past its stream, or next thread over 2
number_of BadCursor = 5
-- budget over 1,000,000
number_of BadBudget = 6
-- a template 1 MOP in the stream with m0 or m1 over 127
number_of BadRounds = 7
-- output shorter than needed, or over 65,536 words needed of the expander
number_of ShortOutput = 8
-- bad image, with the byte offset of the first field missing, cut or out of range
number_of (BadImage at) = 9
-- what is lent of the machine is not well formed
number_of Malformed = 10
-- bench file, row, register or bank number out of range, or cell over 19 bits
number_of BadPlace = 11
-- source bank not owned by Unpackers
number_of WrongOwner = 12
-- a REPLAY that is obeyed with length 0 or over 32 (document 02, K1)
number_of BadReplay = 13

-- what comes back with the number: 9's offset
abbrev pub values_of : Refusal → List ℕ
values_of BadThread = []
values_of BadWord = []
values_of BadField = []
values_of BadLength = []
values_of BadCursor = []
values_of BadBudget = []
values_of BadRounds = []
values_of ShortOutput = []
values_of (BadImage at) = at ∷ []
values_of Malformed = []
values_of BadPlace = []
values_of WrongOwner = []
values_of BadReplay = []

abbrev pub stall_number_of : StallCause → ℕ
-- the wait
stall_number_of (WaitHolds cause) = 101
-- the mutex
stall_number_of (MutexHeld thread) = 102
-- SrcB's owner
stall_number_of (BankNotMatrix bank) = 103

-- what is told with the number (document 02, K3)
abbrev pub stall_cause_of : StallCause → ℕ
-- what the wait is held by
stall_cause_of (WaitHolds cause) = cause
-- the holding thread
stall_cause_of (MutexHeld thread) = thread
-- the bank
stall_cause_of (BankNotMatrix bank) = bank
