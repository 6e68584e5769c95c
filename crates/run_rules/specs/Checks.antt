-- The refusals of a call, in the order of the numbers: 4, 10, 5, 6.
use Rattle.std.specs.Prelude.{ℕ, Bool, ◌&&◌, leb, length}
use Rattle.machine.specs.Sizes.{stream_most, budget_most}
use Rattle.machine.specs.Machine.{Machine}
use Rattle.machine.specs.Formed.{sized, formed}
use Rattle.machine.specs.Answers.{Told, accepted, refused, provided}
use Rattle.run_order.specs.declared.cursor.Cursor.{Cursor}
use Rattle.run_order.specs.Cursor.{Streams}
use Rattle.run_order.specs.Ending.{Halted, halts, goes_on}

-- no stream is over 65,536 words
unfoldable pub streams_sized : Streams → Bool
streams_sized s = leb (length s.s0) stream_most && (leb (length s.s1) stream_most && leb (length s.s2) stream_most)

-- no position is past its stream, and the next thread is not over 2
unfoldable pub placed : Streams → Cursor → Bool
placed s c =
    leb c.at0 (length s.s0)
    && (leb c.at1 (length s.s1) && (leb c.at2 (length s.s2) && leb c.next 2))

unfoldable pub call_check : Streams → Machine → Cursor → ℕ → Told (Unit {0})
call_check s m c budget =
    provided (sized m && streams_sized s) 4
    (provided (formed m) 10
    (provided (placed s c) 5
    (provided (leb budget budget_most) 6
    (accepted tt))))

-- a refused call is a run that ends where it stands
abbrev pub call_halt : Told (Unit {0}) → Halted
call_halt (accepted x) = goes_on
call_halt (refused n vs) = halts (refused n vs)
