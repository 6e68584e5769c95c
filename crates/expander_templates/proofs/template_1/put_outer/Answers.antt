use Prim.Native.Nat.{ℕ, ◌+◌, ◌≤◌}
use mathlib.Core.List.{List, [], ◌∷◌}
use mathlib.Core.Path.{◌≡◌}
use lib.ListN.{length}
use Rattle.expander_rules.specs.Templates.{nth, rounds, last_word, inner_round, outer_round}
use Rattle.expander_rules.proofs.Rounds.{outer_parts}
use Rattle.expander_templates.proofs.Writing.{Three, first_fits, second_fits, third_fits, wrote_three}
use Rattle.expander_templates.proofs.template_1.put_outer.Goals as goal

parts : (m : List ℕ) (o last at : ℕ) (out : List ℕ) → last ≡ last_word m o → at + length (outer_round m o) ≤ length out →
    Three out at (outer_round m o) (nth m 2 ∷ []) (rounds (inner_round m last) 0 (nth m 1)) (nth m 3 ∷ nth m 4 ∷ [])
parts m o last at out e h = record { in_three = outer_parts m o last e; all_fit = h }

pub put_one-p-requires : goal.put_one-p-requires
put_one-p-requires c = first_fits (parts _ _ _ _ _ c.last_word-last.ensures c.requires.1)

pub put_inner-q-requires : goal.put_inner-q-requires
put_inner-q-requires c = second_fits (parts _ _ _ _ _ c.last_word-last.ensures c.requires.1) c.put_one-p.ensures

pub put_pair-requires : goal.put_pair-requires
put_pair-requires c = third_fits (parts _ _ _ _ _ c.last_word-last.ensures c.requires.1) c.put_one-p.ensures c.put_inner-q.ensures

pub returns : goal.returns
returns c = wrote_three (parts _ _ _ _ _ c.last_word-last.ensures c.requires.1) c.put_one-p.ensures c.put_inner-q.ensures c.put_pair.ensures
