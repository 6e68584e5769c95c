-- Inputs longer than what the program reads.
use Prim.Native.Nat.{ℕ}
use mathlib.Core.Path.{◌≡◌, refl}
use mathlib.Core.List.{List, ◌++◌}
use Rattle.std.specs.Prelude.{Result, Ok, Err}
use Rattle.program_records.specs.declared.head.BadRecord.{BadRecord}
use Rattle.program_records.specs.declared.script.Script.{Script}
use Rattle.program_records.specs.Script.{script_of}
use Rattle.program_records.proofs.Longer.{Bad, script_longer}
use Rattle.program_emulate.specs.Emulation.{by_script, emulation_of, LongScripts}

told_alike : (bs cs : List ℕ) (r : Result Script BadRecord) → Bad r → by_script bs r ≡ by_script cs r
told_alike bs cs (Ok s) h = absurd h
told_alike bs cs (Err e) h = refl

pub long_scripts : LongScripts
unfolding emulation_of
long_scripts bs more h =
    let x = script_longer bs more h in
    rw x.0 (told_alike (bs ++ more) bs (script_of bs) x.1)
