-- Inputs longer than what the program reads.
use Rattle.std.specs.Prelude.{Result, Ok, Err}
use Prim.Native.Nat.{ℕ, ◌+◌}
use mathlib.Core.Path.{◌≡◌, refl}
use mathlib.Core.List.{List, ◌++◌}
use native.Mathlib.Omega.{arith}
use lib.ListN.{length, take, drop, length-drop}
use lib.Seq.{take-append-le, drop-append-le}
use Rattle.machine.specs.Machine.{Machine}
use Rattle.image_layout.specs.Image.{image_size}
use Rattle.program_records.specs.declared.head.BadRecord.{BadRecord}
use Rattle.program_records.specs.declared.resume_script.ResumeScript.{ResumeScript}
use Rattle.program_records.specs.ResumeScript.{resume_script_of, resume_script_most}
use Rattle.program_records.proofs.Longer.{Unsound, resume_longer}
use Rattle.program_resume.specs.Resume.{image_machine, by_records, records_of, printed_of, resume_of, LongResumes}

told_alike : (came t u : List ℕ) (m : Machine) (r : Result ResumeScript BadRecord) → Unsound r → by_records came t m r ≡ by_records came u m r
told_alike came t u m (Ok s) h = absurd h
told_alike came t u m (Err e) h = refl

records_longer : (came t more : List ℕ) (m : Machine) → length t ≡ resume_script_most + 1 → records_of came (t ++ more) m ≡ records_of came t m
unfolding records_of
records_longer came t more m h =
    let x = resume_longer t more h in
    rw x.0 (told_alike came (t ++ more) t m (resume_script_of t) x.1)

parts_longer : (came t more : List ℕ) → length t ≡ resume_script_most + 1 → printed_of came (t ++ more) ≡ printed_of came t
unfolding printed_of
parts_longer came t more h = rw (records_longer came t more (image_machine came) h)

pub long_resumes : LongResumes
unfolding resume_of
long_resumes bs more h =
    let d = length-drop image_size bs in
    rw (take-append-le image_size bs more (omega arith), drop-append-le image_size bs more (omega arith))
    (parts_longer (take image_size bs) (drop image_size bs) more (omega arith))
