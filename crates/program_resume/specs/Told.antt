-- What the program `resume` prints of a run.
use Rattle.std.specs.Prelude.{ℕ, Bool, true, false, cond, List, ◌++◌}
use Rattle.machine.specs.Machine.{Machine}
use Rattle.machine.specs.Answers.{Told, accepted, refused}
use Rattle.run_order.specs.Ending.{RunEnd}
use Rattle.run_rules.specs.Run.{Summary}
use Rattle.image_layout.specs.Image.{image}
use Rattle.program_records.specs.declared.counts.Counts.{Counts}
use Rattle.program_report.specs.Texts.{next_text}
use Rattle.program_report.specs.Lines.{number_line, end_line, run_lines}

-- the image's bytes of a machine
unfoldable pub image_bytes : Machine → List ℕ
image_bytes m = image.put m

-- the five lines of a run, and `next N`
abbrev pub six_lines : Summary → Counts → List ℕ
six_lines r n =
    run_lines r.answer r.turns r.cursor r.stalls n.n0 n.n1 n.n2 ++ number_line next_text r.cursor.next

abbrev pub call_refused : Told RunEnd → Bool
call_refused (accepted e) = false
call_refused (refused n vs) = true

-- six lines and the image after the run; of a refused call `rejected N` and the image as it came
unfoldable pub told_of : List ℕ → Summary → Counts → List ℕ
told_of came r n = cond (call_refused r.answer) (end_line r.answer ++ came) (six_lines r n ++ image_bytes r.after)
