-- The machine in a run's summary is well formed.
use Prim.Native.Nat.{ℕ}
use mathlib.Core.Path.{◌≡◌, ap, ◌∙◌}
use mathlib.Core.Bool.{true}
use Rattle.machine.specs.Machine.{Machine}
use Rattle.machine.specs.Formed.{well_formed}
use Rattle.run_order.specs.declared.cursor.Cursor.{Cursor}
use Rattle.run_order.specs.Cursor.{Streams}
use Rattle.run_rules.specs.Run.{Summary, run_of, summary_of}
use Rattle.run_rules.proofs.Kept.{run_keeps}
use Rattle.whole_machine.specs.declared.runs.WholeRan.{WholeRan}
use Rattle.whole_machine.specs.Ran.{ran_summary}

pub ran_kept : (s : Streams) (m n : Machine) (c : Cursor) (budget : ℕ) (r : WholeRan) →
    ran_summary r n ≡ summary_of c (run_of s m c budget) → well_formed m ≡ true → well_formed n ≡ true
ran_kept s m n c budget r h p = ap (λ (x : Summary). well_formed x.after) h ∙ run_keeps.formed s m c budget p
