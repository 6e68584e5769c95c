-- How long the numbers are that say how a machine is made, and how much is lent of it. For internal contracts alone: that nothing is read past
-- its end.
use Rattle.std.specs.Prelude.{ℕ, ◌*◌, ◌≤◌}
use Rattle.machine.specs.Sizes.{setting_count, gpr_count, config_count, dest_count, mark_count, source_count}
use Rattle.test_machines.specs.declared.lengths.Lengths.{Lengths}

-- six numbers of 4 bytes
abbrev pub made_bytes : ℕ
made_bytes = 24

-- how many times the machine's size there is of each part
abbrev pub room : ℕ
room = 2

-- no more than there is
pub record LentWithin (n : Lengths) : Type 0 where
  pub settings : n.settings ≤ room * setting_count
  pub gprs : n.gprs ≤ room * gpr_count
  pub config : n.config ≤ room * config_count
  pub dest : n.dest ≤ room * dest_count
  pub marks : n.marks ≤ room * mark_count
  pub src_a : n.src_a ≤ room * source_count
  pub src_b : n.src_b ≤ room * source_count
