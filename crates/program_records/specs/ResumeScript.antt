-- The input of `resume` after its image: records 32, 33, 34 (words of threads 0, 1, 2; at most 65,536 each), 35 (budget, 4
-- bytes) and 36 (cursor, 16 bytes), each once and in order, and nothing after.
use Rattle.std.specs.Prelude.{ℕ, ◌+◌, ◌*◌, cond, List, eqb, length, drop, Option, Some, None, Result, Ok, Err}
use Rattle.machine.specs.Sizes.{word_most, stream_most}
use Rattle.format.specs.Format.{head_bytes}
use Rattle.run_order.specs.declared.cursor.Cursor.{Cursor}
use Rattle.program_records.specs.declared.counts.Counts.{Counts}
use Rattle.program_records.specs.declared.head.BadRecord.{BadRecord}
use Rattle.program_records.specs.declared.resume_script.ResumeScript.{ResumeScript}
use Rattle.program_records.specs.Head.{bad}
use Rattle.program_records.specs.Counts.{counts_of, words_end}
use Rattle.program_records.specs.Fixed.{budget_bytes, cursor_bytes, budget_record_of, cursor_record_of}

-- nothing after
abbrev pub resume_ended : List ℕ → ResumeScript → ℕ → Result ResumeScript BadRecord
resume_ended bs script at = cond (eqb (length bs) at) (Ok script) (Err (bad at))

abbrev pub after_place : List ℕ → Counts → ℕ → ℕ → Option Cursor → Result ResumeScript BadRecord
after_place bs c b at (Some p) = resume_ended bs (record { counts = c; budget = b; cursor = p }) (at + cursor_bytes)
after_place bs c b at None = Err (bad at)

-- the budget is any number
abbrev pub after_any_budget : List ℕ → Counts → ℕ → Option ℕ → Result ResumeScript BadRecord
after_any_budget bs c at (Some b) = after_place bs c b (at + budget_bytes) (cursor_record_of (drop (at + budget_bytes) bs))
after_any_budget bs c at None = Err (bad at)

abbrev pub after_streams : List ℕ → Result Counts BadRecord → Result ResumeScript BadRecord
after_streams bs (Ok c) = after_any_budget bs c (words_end c) (budget_record_of word_most (drop (words_end c) bs))
after_streams bs (Err e) = Err e

-- the most bytes of a body of words
abbrev pub stream_bytes : ℕ
stream_bytes = stream_most * 4

-- the longest sound input
abbrev pub resume_script_most : ℕ
resume_script_most = 3 * (head_bytes + stream_bytes) + (budget_bytes + cursor_bytes)

-- the script, or the offset of the first bad or missing record or of extra bytes, counted from the image's end
unfoldable pub resume_script_of : List ℕ → Result ResumeScript BadRecord
resume_script_of bs = after_streams bs (counts_of stream_bytes bs)
