-- What a call comes to, by the answer of its checks and what it has written. This definition serves internal contracts alone.
use Rattle.std.specs.Prelude.{List, ℕ, Result, Ok, Err}
use Rattle.machine.specs.Answers.{accepted, refusal}
use Rattle.machine.specs.declared.refusal.Refusal.{Refusal}
use Rattle.expander_rules.specs.Call.{Expanding, expanding}
use Rattle.expander_rules.specs.declared.Carried.{Carried}
use Rattle.expander.specs.declared.Written.{Written}

-- a refused call hands back the old state
abbrev pub outcome : Carried → List ℕ → Result Written Refusal → Expanding
outcome c out (Ok w) = expanding (accepted w.count) w.carried out
outcome c out (Err r) = expanding (refusal r) c out
