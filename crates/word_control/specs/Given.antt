-- What SETDVALID and CLEARDVALID have in common: the bank at a pointer goes to an owner, and the pointer flips unless it is kept.
use Rattle.std.specs.Prelude.{ℕ, ◌-◌, Bool, cond, set, get_or}
use Rattle.machine.specs.declared.control.Control.{Control}
use Rattle.machine.specs.Control.{with_banks, owner_place}

-- the place of the pointer is its own among all four
abbrev pub given : Control → ℕ → ℕ → ℕ → Bool → Control
given c file pointer owner keep =
    let bank = get_or c.pointers pointer 0 in
    with_banks c (set c.owners (owner_place file bank) owner) (cond keep c.pointers (set c.pointers pointer (1 - bank)))
