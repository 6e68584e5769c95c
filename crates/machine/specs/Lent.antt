-- The machines that lent parts are.
use Rattle.std.specs.Prelude.{ℕ, ◌≡◌, List}
use Rattle.machine.specs.declared.control.Control.{Control}
use Rattle.machine.specs.declared.lent.MachineView.{MachineView}
use Rattle.machine.specs.declared.lent.SizedStores.{SizedStores}
use Rattle.machine.specs.Machine.{Machine, machine}

-- the machine that is lent to be read
abbrev pub viewed : MachineView → Machine
viewed v = machine v.control v.settings.now v.gprs.now v.config.now v.dest.now v.marks.now v.src_a.now v.src_b.now

-- the machine of a control part, the stores lent to be written, and Dest's cells
abbrev pub machine_at : Control → SizedStores → List ℕ → Machine
machine_at c s cells = machine c s.settings.now s.gprs.now s.config.now cells s.marks.now s.src_a.now s.src_b.now

-- the same stores are lent
pub record SameLoans (p q : SizedStores) : Type 0 where
  pub settings : p.settings.ghost_name ≡ q.settings.ghost_name
  pub gprs : p.gprs.ghost_name ≡ q.gprs.ghost_name
  pub config : p.config.ghost_name ≡ q.config.ghost_name
  pub marks : p.marks.ghost_name ≡ q.marks.ghost_name
  pub src_a : p.src_a.ghost_name ≡ q.src_a.ghost_name
  pub src_b : p.src_b.ghost_name ≡ q.src_b.ghost_name
