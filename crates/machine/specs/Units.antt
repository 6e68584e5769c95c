-- GPR numbers and half-register numbers.
use Rattle.std.specs.Prelude.{ℕ, ◌+◌, ◌*◌, ◌/◌, ◌%◌, Bool, eqb}
use Rattle.machine.specs.Sizes.{thread_gprs}
use Rattle.machine.specs.declared.units.GprNumber.{GprNumber}
use Rattle.machine.specs.declared.units.HalfRegister.{HalfRegister}

abbrev pub gpr : ℕ → GprNumber
gpr n = record { 0 = n }

abbrev pub half_register : ℕ → HalfRegister
half_register n = record { 0 = n }

-- even is a low half, odd a high half
abbrev pub gpr_of_half : HalfRegister → GprNumber
gpr_of_half h = gpr (h.0 / 2)

abbrev pub is_high_half : HalfRegister → Bool
is_high_half h = eqb (h.0 % 2) 1

-- where thread t's GPR stands among the 192
abbrev pub gpr_place : ℕ → GprNumber → ℕ
gpr_place t g = t * thread_gprs + g.0
