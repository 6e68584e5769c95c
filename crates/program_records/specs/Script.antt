-- The input of `emulate`: records 32, 33, 34 (words of threads 0, 1, 2; at most 1,024 each) and 35 (budget, 4 bytes, within
-- its limit), each once and in order, and nothing after.
use Rattle.std.specs.Prelude.{ℕ, ◌+◌, ◌*◌, cond, List, eqb, length, drop, Option, Some, None, Result, Ok, Err}
use Rattle.machine.specs.Sizes.{budget_most}
use Rattle.format.specs.Format.{head_bytes}
use Rattle.program_records.specs.declared.counts.Counts.{Counts}
use Rattle.program_records.specs.declared.head.BadRecord.{BadRecord}
use Rattle.program_records.specs.declared.script.Script.{Script}
use Rattle.program_records.specs.Head.{bad}
use Rattle.program_records.specs.Counts.{counts_of, words_end}
use Rattle.program_records.specs.Fixed.{budget_bytes, budget_record_of}

-- nothing after
abbrev pub ended : List ℕ → Script → ℕ → Result Script BadRecord
ended bs script at = cond (eqb (length bs) at) (Ok script) (Err (bad at))

abbrev pub after_budget : List ℕ → Counts → ℕ → Option ℕ → Result Script BadRecord
after_budget bs c at (Some b) = ended bs (record { counts = c; budget = b }) (at + budget_bytes)
after_budget bs c at None = Err (bad at)

abbrev pub after_words : List ℕ → Result Counts BadRecord → Result Script BadRecord
after_words bs (Ok c) = after_budget bs c (words_end c) (budget_record_of budget_most (drop (words_end c) bs))
after_words bs (Err e) = Err e

-- the most words of a thread, and the most bytes of a body of words
abbrev pub script_words : ℕ
script_words = 1024

abbrev pub body_most : ℕ
body_most = script_words * 4

-- the longest sound input
abbrev pub script_most : ℕ
script_most = 3 * (head_bytes + body_most) + budget_bytes

-- the script, or the offset of the first bad or missing record or of extra bytes
unfoldable pub script_of : List ℕ → Result Script BadRecord
script_of bs = after_words bs (counts_of body_most bs)
