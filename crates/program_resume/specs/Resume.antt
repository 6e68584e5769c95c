-- What the program `resume` prints for each input there is: an image, then records 32 to 36.
use Rattle.std.specs.Prelude.{ℕ, ◌+◌, ◌≤◌, ◌≡◌, Bool, cond, List, ◌++◌, length, take, drop, Result, Ok, Err}
use Rattle.machine.specs.Machine.{Machine}
use Rattle.format.specs.Format.{accepts}
use Rattle.image_layout.specs.Image.{image, image_size}
use Rattle.run_rules.specs.Run.{Summary, run_of, summary_of}
use Rattle.program_records.specs.declared.resume_script.ResumeScript.{ResumeScript}
use Rattle.program_records.specs.declared.head.BadRecord.{BadRecord}
use Rattle.program_records.specs.Counts.{streams_of}
use Rattle.program_records.specs.ResumeScript.{resume_script_of, resume_script_most}
use Rattle.program_report.specs.Texts.{bad_record_text, bad_image_text}
use Rattle.program_report.specs.Lines.{number_line, lines_room}
use Rattle.program_resume.specs.Told.{told_of}

-- the machine of an image's bytes
unfoldable pub image_machine : List ℕ → Machine
image_machine bs = image.get bs

-- the offset of an image's first field that is missing, cut or out of range
unfoldable pub image_good : List ℕ → ℕ
image_good bs = image.good bs

-- nothing of an image is missing, cut, out of range or left over
unfoldable pub image_fine : List ℕ → Bool
image_fine bs = accepts image bs

-- the run that the records ask for
unfoldable pub resume_run : List ℕ → Machine → ResumeScript → Summary
resume_run tail m s = summary_of s.cursor (run_of (streams_of tail s.counts) m s.cursor s.budget)

abbrev pub by_records : List ℕ → List ℕ → Machine → Result ResumeScript BadRecord → List ℕ
by_records came tail m (Ok s) = told_of came (resume_run tail m s) s.counts
by_records came tail m (Err e) = number_line bad_record_text (image_size + e.at)

-- of a machine loaded from the image that came, and the records after the image: what is told, or `bad record at N`, N counted
-- from the start of the input
unfoldable pub records_of : List ℕ → List ℕ → Machine → List ℕ
records_of came tail m = by_records came tail m (resume_script_of tail)

-- a bad image prints only `bad image at N`
unfoldable pub printed_of : List ℕ → List ℕ → List ℕ
printed_of came tail =
    cond (image_fine came) (records_of came tail (image_machine came)) (number_line bad_image_text (image_good came))

unfoldable pub resume_of : List ℕ → List ℕ
resume_of bs = printed_of (take image_size bs) (drop image_size bs)

-- one byte more than the longest sound input, which is all that the program reads
abbrev pub resume_reads : ℕ
resume_reads = image_size + resume_script_most + 1

-- room for every output
abbrev pub resume_room : ℕ
resume_room = image_size + lines_room

-- what stands behind them changes nothing
abbrev pub LongResumes : Type 0
LongResumes = (bs more : List ℕ) → length bs ≡ resume_reads → resume_of (bs ++ more) ≡ resume_of bs

-- a place that cuts an input as its image does, also where the input is shorter
pub record Split (bs : List ℕ) (at : ℕ) : Type 0 where
  pub within : at ≤ length bs
  pub short : at ≤ image_size
  pub image : take at bs ≡ take image_size bs
  pub rest : drop at bs ≡ drop image_size bs
