-- What the program `emulate` prints for each input there is (document 01, "Program and cases"; document 02, K3).
use Rattle.std.specs.Prelude.{ℕ, ◌+◌, ◌≡◌, List, ◌++◌, length, Result, Ok, Err}
use Rattle.machine.specs.Fresh.{fresh_machine}
use Rattle.run_order.specs.declared.cursor.Cursor.{Cursor}
use Rattle.run_order.specs.Cursor.{Streams}
use Rattle.run_rules.specs.Run.{Summary, run_of, summary_of}
use Rattle.program_records.specs.declared.counts.Counts.{Counts}
use Rattle.program_records.specs.declared.head.BadRecord.{BadRecord}
use Rattle.program_records.specs.declared.script.Script.{Script}
use Rattle.program_records.specs.Counts.{streams_of}
use Rattle.program_records.specs.Script.{script_of, script_most}
use Rattle.program_report.specs.Texts.{bad_record_text}
use Rattle.program_report.specs.Lines.{number_line, run_lines}

-- all positions at the start, thread 0 next
abbrev pub start_cursor : Cursor
start_cursor = record { at0 = 0; at1 = 0; at2 = 0; next = 0 }

-- a run of a fresh machine
unfoldable pub fresh_run : Streams → ℕ → Summary
fresh_run s budget = summary_of start_cursor (run_of s fresh_machine start_cursor budget)

abbrev pub lines_of : Summary → Counts → List ℕ
lines_of r n = run_lines r.answer r.turns r.cursor r.stalls n.n0 n.n1 n.n2

abbrev pub by_script : List ℕ → Result Script BadRecord → List ℕ
by_script bs (Ok s) = lines_of (fresh_run (streams_of bs s.counts) s.budget) s.counts
by_script bs (Err e) = number_line bad_record_text e.at

-- the lines of the run, or only `bad record at N`
unfoldable pub emulation_of : List ℕ → List ℕ
emulation_of bs = by_script bs (script_of bs)

-- one byte more than the longest sound input, which is all that the program reads
abbrev pub emulate_reads : ℕ
emulate_reads = script_most + 1

-- what stands behind them changes nothing
abbrev pub LongScripts : Type 0
LongScripts = (bs more : List ℕ) → length bs ≡ emulate_reads → emulation_of (bs ++ more) ≡ emulation_of bs
