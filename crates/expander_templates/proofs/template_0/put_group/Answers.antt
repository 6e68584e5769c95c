use Prim.Native.Nat.{ℕ, ◌+◌, ◌≤◌}
use mathlib.Core.Bool.{Bool}
use mathlib.Core.List.{List, [], ◌∷◌}
use mathlib.Core.Path.{◌≡◌, refl}
use lib.ListN.{length}
use Rattle.bits.specs.Field.{flag}
use Rattle.expander_rules.specs.Templates.{nth, words_if, group}
use Rattle.expander_templates.proofs.Writing.{Three, second_fits, third_fits, wrote_three, first_fits}
use Rattle.expander_templates.proofs.template_0.put_group.Goals as goal

parts : (m : List ℕ) (first : ℕ) (more : List ℕ) (last at : ℕ) (out : List ℕ) (three one : Bool) → three ≡ flag 1 (nth m 1) → one ≡ flag 0 (nth m 1) →
    at + length (group m first more last) ≤ length out → Three out at (group m first more last) (first ∷ []) (words_if three more) (words_if one (last ∷ []))
unfolding group
parts m first more last at out three one p q h = record { in_three = rw (p, q); all_fit = h }

pub put_one-p-requires : goal.put_one-p-requires
put_one-p-requires c = first_fits (parts _ _ _ _ _ _ _ _ refl refl c.requires)

pub put_if-q-requires : goal.put_if-q-requires
put_if-q-requires c = second_fits (parts _ _ _ _ _ _ _ _ c.flag.ensures refl c.requires) c.put_one-p.ensures

pub put_if-requires : goal.put_if-requires
put_if-requires c = third_fits (parts _ _ _ _ _ _ _ _ c.flag.ensures c.flag-2.ensures c.requires) c.put_one-p.ensures c.put_if-q.ensures

pub returns : goal.returns
returns c = wrote_three (parts _ _ _ _ _ _ _ _ c.flag.ensures c.flag-2.ensures c.requires) c.put_one-p.ensures c.put_if-q.ensures c.put_if.ensures
