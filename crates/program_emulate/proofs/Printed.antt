-- What is printed, where the parts of it go by names.
use Prim.Native.Nat.{ℕ}
use mathlib.Core.Path.{◌≡◌, ap}
use mathlib.Core.List.{List}
use Rattle.machine.specs.Machine.{Machine}
use Rattle.machine.specs.Fresh.{fresh_machine}
use Rattle.machine.specs.Answers.{Told}
use Rattle.run_order.specs.declared.cursor.Cursor.{Cursor}
use Rattle.run_order.specs.Ending.{RunEnd}
use Rattle.run_order.specs.Cursor.{Streams}
use Rattle.run_order.specs.Stalls.{Stalls}
use Rattle.run_rules.specs.Run.{Summary, summary, run_of, summary_of}
use Rattle.program_records.specs.declared.script.Script.{Script}
use Rattle.program_records.specs.Counts.{streams_of}
use Rattle.program_report.specs.Lines.{run_lines}
use Rattle.program_emulate.specs.Emulation.{start_cursor, fresh_run, lines_of}

-- the lines of a run of the fresh machine m on the streams w
pub printed : (bs : List ℕ) (s : Script) (w : Streams) (a : Told RunEnd) (t : ℕ) (m n : Machine) (c : Cursor) (l : Stalls) → w ≡ streams_of bs s.counts → m ≡ fresh_machine →
    summary a t n c l ≡ summary_of start_cursor (run_of w m start_cursor s.budget) →
    run_lines a t c l s.counts.n0 s.counts.n1 s.counts.n2 ≡ lines_of (fresh_run (streams_of bs s.counts) s.budget) s.counts
unfolding fresh_run
printed bs s w a t m n c l e f h =
    let g : summary a t n c l ≡ summary_of start_cursor (run_of (streams_of bs s.counts) fresh_machine start_cursor s.budget) = rw (e, f) at h in
    ap (λ (x : Summary). lines_of x s.counts) g
