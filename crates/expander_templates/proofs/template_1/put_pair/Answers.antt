use native.Mathlib.Omega.{arith}
use Rattle.bits.proofs.Overwrite.{wrote_then}
use Rattle.expander_templates.proofs.template_1.put_pair.Goals as goal

pub returns : goal.returns
returns c = wrote_then c.put_one-p.ensures c.put_one.ensures (omega arith)
