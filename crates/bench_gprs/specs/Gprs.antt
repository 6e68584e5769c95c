-- Bench access to a GPR.
use Rattle.std.specs.Prelude.{ℕ, List, eqb, leb, length, get_or, set}
use Rattle.machine.specs.Sizes.{gpr_count}
use Rattle.machine.specs.Units.{gpr, gpr_place}
use Rattle.machine.specs.Answers.{Told, accepted, provided, Call, checked}

-- 4: not 192 GPRs lent; 1: thread not 0–2; 11: register over 63. By their type all GPRs are in range, so 10 is never given
unfoldable pub gpr_check : {A : Type 0} → ℕ → ℕ → ℕ → Told A → Told A
gpr_check count thread register rest =
    provided (eqb count gpr_count) 4
    (provided (leb thread 2) 1
    (provided (leb register 63) 11
    rest))

unfoldable pub read_gpr_of : List ℕ → ℕ → ℕ → Told ℕ
read_gpr_of g thread register =
    gpr_check (length g) thread register (accepted (get_or g (gpr_place thread (gpr register)) 0))

unfoldable pub write_gpr_of : List ℕ → ℕ → ℕ → ℕ → Call (List ℕ)
write_gpr_of g thread register value =
    checked (gpr_check (length g) thread register (accepted tt)) g (set g (gpr_place thread (gpr register)) value)
