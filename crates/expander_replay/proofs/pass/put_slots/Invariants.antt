use Prim.Native.Nat.{◌-◌, ◌<◌}
use Rattle.expander_rules.specs.Sizes.{slot_count}
use Rattle.expander_rules.specs.Replay.{slots_from}
use Rattle.expander_templates.proofs.Writing.{Left}
use Rattle.expander_replay.proofs.pass.put_slots.Given as goal

abbrev pub invariant-loop-i : goal.invariant-loop-i
invariant-loop-i l = (l.slot < slot_count) × Left l.initial.out l.at (slots_from l.slots l.start l.count) l.out l.p (slots_from l.slots l.slot (l.count - l.i))
