-- The lines that the programs print (document 01, "Program and cases"; document 02, K3). 10 ends a line, 32 is a space, 47 is `/`, 116 is `t`.
use Rattle.std.specs.Prelude.{ℕ, ◌+◌, List, [], ◌∷◌, ◌++◌}
use Rattle.machine.specs.Answers.{Told, accepted, refused}
use Rattle.run_order.specs.declared.cursor.Cursor.{Cursor}
use Rattle.run_order.specs.Ending.{RunEnd, finished, stuck, budget_used, word_refused}
use Rattle.run_order.specs.Stalls.{Stall, unstalled, stalled_by, Stalls, no_stalls}
use Rattle.text.specs.Decimal.{decimal}
use Rattle.program_report.specs.Texts.{end_text, finished_text, stuck_text, budget_text, refused_text, rejected_text, turns_text, waits_text}

-- room for all that a program prints but an image
abbrev pub lines_room : ℕ
lines_room = 400

abbrev pub line_end : List ℕ
line_end = 10 ∷ []

-- a text, a number and the line's end
abbrev pub number_line : List ℕ → ℕ → List ℕ
number_line words n = words ++ (decimal n ++ line_end)

abbrev pub word_line : List ℕ → List ℕ
word_line words = end_text ++ (words ++ line_end)

-- `end finished`, `end stuck`, `end budget`, `end refused N`; of a refused call `rejected N`
unfoldable pub end_line : Told RunEnd → List ℕ
end_line (accepted finished) = word_line finished_text
end_line (accepted stuck) = word_line stuck_text
end_line (accepted budget_used) = word_line budget_text
end_line (accepted (word_refused n vs)) = end_text ++ number_line refused_text n
end_line (refused n vs) = number_line rejected_text n

-- which of the threads' last stalls are told: "the program adds ` waits REASON CAUSE` to that thread's line when the run is stuck"
-- (document 02, K3)
abbrev pub stalls_told : Told RunEnd → Stalls → Stalls
stalls_told (accepted finished) l = no_stalls
stalls_told (accepted stuck) l = l
stalls_told (accepted budget_used) l = no_stalls
stalls_told (accepted (word_refused n vs)) l = no_stalls
stalls_told (refused n vs) l = no_stalls

-- ` waits 103 0`, where a stall is told
unfoldable pub waits_of : Stall → List ℕ
waits_of unstalled = []
waits_of (stalled_by n cause) = waits_text ++ (decimal n ++ ((32 ∷ []) ++ decimal cause))

-- `t0 1/1`, `t1 0/1 waits 103 0`: the thread, its position and how many words it has, then what it waits for
unfoldable pub thread_line : ℕ → ℕ → ℕ → Stall → List ℕ
thread_line t at n x =
    (116 ∷ (48 + t) ∷ 32 ∷ []) ++ (decimal at ++ ((47 ∷ []) ++ (decimal n ++ (waits_of x ++ line_end))))

-- the three lines of the threads
unfoldable pub thread_lines : Cursor → Stalls → ℕ → ℕ → ℕ → List ℕ
thread_lines c l n0 n1 n2 =
    thread_line 0 c.at0 n0 l.t0 ++ (thread_line 1 c.at1 n1 l.t1 ++ thread_line 2 c.at2 n2 l.t2)

-- the five lines of a run
unfoldable pub run_lines : Told RunEnd → ℕ → Cursor → Stalls → ℕ → ℕ → ℕ → List ℕ
run_lines e turns c l n0 n1 n2 =
    end_line e ++ (number_line turns_text turns ++ thread_lines c (stalls_told e l) n0 n1 n2)
