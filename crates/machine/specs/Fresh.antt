-- A fresh machine: every word and cell zero, every Dest row invalid, mutexes free, no waits, all owners Unpackers, all pointers 0.
use Rattle.std.specs.Prelude.{ℕ, ◌≡◌, false, replicate, get_or}
use Rattle.machine.specs.declared.control.Wait.TheVariants.{Clear}
use Rattle.machine.specs.declared.control.Thread.{Thread}
use Rattle.machine.specs.declared.control.Control.{Control}
use Rattle.machine.specs.declared.fresh.WholeMachine.{WholeMachine}
use Rattle.machine.specs.Sizes.{mutex_count, semaphore_count, bank_count, pointer_count, gpr_count, setting_count, config_count, dest_count, mark_count, source_count}
use Rattle.machine.specs.Control.{control}
use Rattle.machine.specs.Machine.{Machine, Stores, stores, machine, machine_with, dest_of}

abbrev pub idle_thread : Thread
idle_thread = record { wait = Clear }

abbrev pub fresh_control : Control
fresh_control =
    control idle_thread idle_thread idle_thread (replicate mutex_count 0)
    (replicate semaphore_count (record { value = 0; maximum = 0 })) (replicate bank_count 0) (replicate pointer_count 0)

unfoldable pub fresh_stores : Stores
fresh_stores =
    stores (replicate gpr_count 0) (replicate config_count 0) (dest_of (replicate dest_count 0) (replicate mark_count false)) (replicate source_count 0) (replicate source_count 0)

unfoldable pub fresh_machine : Machine
fresh_machine = machine_with fresh_control (replicate setting_count 0) fresh_stores

-- the machine that a struct of its parts is
abbrev pub machine_of : WholeMachine → Machine
machine_of f =
    machine f.control f.settings f.gprs f.config f.dest f.marks f.src_a f.src_b

-- each entry of each store, one by one
pub record EveryZero (m : Machine) : Type 0 where
  pub settings : (i : ℕ) → get_or m.settings i 0 ≡ 0
  pub gprs : (i : ℕ) → get_or m.kept.gprs i 0 ≡ 0
  pub config : (i : ℕ) → get_or m.kept.config i 0 ≡ 0
  pub dest : (i : ℕ) → get_or m.kept.dest.cells i 0 ≡ 0
  pub marks : (i : ℕ) → get_or m.kept.dest.marks i false ≡ false
  pub src_a : (i : ℕ) → get_or m.kept.src_a i 0 ≡ 0
  pub src_b : (i : ℕ) → get_or m.kept.src_b i 0 ≡ 0
