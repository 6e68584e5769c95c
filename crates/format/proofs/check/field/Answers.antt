use Rattle.std.proofs.Common.{sym, arith}
use lib.ListN.{length-drop}
use Rattle.format.proofs.Fields.{num_in, num_cut, num_out}
use Rattle.format.proofs.check.field.Goals as goal

pub returns-then-s-at : goal.returns-then-s-at
returns-then-s-at g c = (sym (num_cut _ _ _ _ (simp length-drop (omega arith))), omega arith)

pub returns-then-v-hi : goal.returns-then-v-hi
returns-then-v-hi g c = (sym (num_in _ _ _ _ (simp length-drop (omega arith)) (omega arith) (omega arith)), omega arith)

pub returns-else-lo-v : goal.returns-else-lo-v
returns-else-lo-v g c = (num_out _ _ _ _ (simp length-drop (omega arith)) (rw c.read-v.ensures.value at c.else-lo-v.either), omega arith)
