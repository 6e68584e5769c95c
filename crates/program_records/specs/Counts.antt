-- Records 32, 33, 34: the words of threads 0, 1, 2, each once and in order.
use Rattle.std.specs.Prelude.{ℕ, ◌+◌, ◌*◌, ◌/◌, ◌%◌, cond, List, eqb, drop, Option, Some, None, Result, Ok, Err}
use Rattle.bits.specs.Bytes.{le}
use Rattle.format.specs.Format.{many_get, head_bytes}
use Rattle.run_order.specs.Cursor.{Streams, streams}
use Rattle.program_records.specs.declared.counts.Counts.{Counts}
use Rattle.program_records.specs.declared.head.BadRecord.{BadRecord}
use Rattle.program_records.specs.Head.{bad, words_kind, body_of}

-- whole words
abbrev pub in_words : Option ℕ → Option ℕ
in_words (Some n) = cond (eqb (n % 4) 0) (Some (n / 4)) None
in_words None = None

-- a record of words, of at most so many bytes
unfoldable pub words_record_of : ℕ → ℕ → List ℕ → Option ℕ
words_record_of most kind bs = in_words (body_of kind most bs)

-- where the next record starts after one of n words
abbrev pub past : ℕ → ℕ → ℕ
past at n = at + head_bytes + 4 * n

abbrev pub after_second : ℕ → ℕ → ℕ → Option ℕ → Result Counts BadRecord
after_second n0 n1 at (Some n2) = Ok (record { n0 = n0; n1 = n1; n2 = n2 })
after_second n0 n1 at None = Err (bad at)

abbrev pub after_first : ℕ → List ℕ → ℕ → ℕ → Option ℕ → Result Counts BadRecord
after_first most bs n0 at (Some n1) = after_second n0 n1 (past at n1) (words_record_of most (words_kind 2) (drop (past at n1) bs))
after_first most bs n0 at None = Err (bad at)

abbrev pub from_start : ℕ → List ℕ → Option ℕ → Result Counts BadRecord
from_start most bs (Some n0) = after_first most bs n0 (past 0 n0) (words_record_of most (words_kind 1) (drop (past 0 n0) bs))
from_start most bs None = Err (bad 0)

-- how many words each thread has, or the offset of the first bad or missing record
unfoldable pub counts_of : ℕ → List ℕ → Result Counts BadRecord
counts_of most bs = from_start most bs (words_record_of most (words_kind 0) bs)

-- where the three records end
abbrev pub words_end : Counts → ℕ
words_end c = past (past (past 0 c.n0) c.n1) c.n2

-- n words of four bytes, from a place on
abbrev pub words_at : List ℕ → ℕ → ℕ → List ℕ
words_at bs at n = many_get (le 4) 4 n (drop at bs)

-- where the bodies of records 32, 33 and 34 start
abbrev pub body0 : ℕ
body0 = head_bytes

abbrev pub body1 : Counts → ℕ
body1 c = past 0 c.n0 + head_bytes

abbrev pub body2 : Counts → ℕ
body2 c = past (past 0 c.n0) c.n1 + head_bytes

-- the words of the three threads
abbrev pub streams_of : List ℕ → Counts → Streams
streams_of bs c = streams (words_at bs body0 c.n0) (words_at bs (body1 c) c.n1) (words_at bs (body2 c) c.n2)
