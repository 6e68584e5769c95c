use native.Mathlib.Omega.{arith}
use Rattle.std.proofs.lemmas.Grind.{common_steps}
use Rattle.word_control.proofs.mutex_words.at_rel_m.Goals as goal

pub returns : goal.returns
returns c = grind (arith, common_steps)
