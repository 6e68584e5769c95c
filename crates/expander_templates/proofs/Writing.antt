-- Laws of a list that is written part by part.
use Prim.Native.Nat.{ℕ, ◌+◌, ◌≤◌}
use mathlib.Core.List.{List, [], ◌++◌, append-nil}
use mathlib.Core.Path.{◌≡◌, refl, sym, ap, ◌∙◌}
use native.Mathlib.Nat.{add-zero}
use native.Mathlib.Omega.{arith}
use lib.ListN.{length, length-append}
use Rattle.bits.specs.Overwrite.{over, Wrote}
use Rattle.bits.proofs.Overwrite.{over_long, over_over, over_none}

-- nothing is to be written
pub wrote_none : {A : Type 0} (o : List A) (at : ℕ) → Wrote o at [] o at
wrote_none o at = record { placed = sym (add-zero at); list = sym (over_none o at) }

-- l is being written into o at `at`: the list is now n, and `rest` is still to be written, at p
pub record Left {A : Type 0} (o : List A) (at : ℕ) (l n : List A) (p : ℕ) (rest : List A) : Type 0 where
  pub rest_fits : p + length rest ≤ length n
  pub place : p + length rest ≡ at + length l
  pub as_long : length n ≡ length o
  pub all_written : over n p rest ≡ over o at l

pub left_start : {A : Type 0} (o : List A) (at : ℕ) (l : List A) → at + length l ≤ length o → Left o at l o at l
left_start o at l h = record { rest_fits = h; place = refl; as_long = refl; all_written = refl }

module _ {A : Type 0} {o l n rest : List A} {at p : ℕ} (u : Left o at l n p rest) where
  -- the next part fits
  pub left_room : (part more : List A) → rest ≡ part ++ more → p + length part ≤ length n
  left_room part more e = omega (arith, length-append part more, ap length e)

  -- the next part is written
  pub left_next : {part more n' : List A} {p' : ℕ} → rest ≡ part ++ more → Wrote n p part n' p' → Left o at l n' p' more
  left_next {part} {more} {n'} {p'} e w =
      let s = length-append part more in
      let t = ap length e in
      let long = ap length w.list ∙ over_long n p part (left_room part more e) in
      record {
        rest_fits = omega (arith, long, w.placed, s, t);
        place = omega (arith, w.placed, s, t);
        as_long = long ∙ u.as_long;
        all_written = rw (w.list, w.placed) (over_over n p part more (omega arith) ∙ ap (λ (r : List A). over n p r) (sym e) ∙ u.all_written);
      }

  -- nothing is left, or one part only, and it is written
  pub left_done : rest ≡ [] → Wrote o at l n p
  left_done e = let t = ap length e in record { placed = omega (arith, t); list = sym (over_none n p) ∙ rw e at u.all_written }

pub left_last : {A : Type 0} {o l n rest n' : List A} {at p p' : ℕ} → Left o at l n p rest → Wrote n p rest n' p' → Wrote o at l n' p'
left_last {rest = rest} u w = left_done (left_next u {more = []} (sym (append-nil rest)) w) refl

-- l is three parts, to be written one after the other
pub record Three {A : Type 0} (o : List A) (at : ℕ) (l x y z : List A) : Type 0 where
  pub in_three : l ≡ x ++ (y ++ z)
  pub all_fit : at + length l ≤ length o

module _ {A : Type 0} {o : List A} {at : ℕ} {l x y z : List A} (t : Three o at l x y z) where
  pub first_fits : at + length x ≤ length o
  first_fits = left_room (left_start o at l t.all_fit) x (y ++ z) t.in_three

  module _ {n : List A} {p : ℕ} (u : Wrote o at x n p) where
    one_left : Left o at l n p (y ++ z)
    one_left = left_next (left_start o at l t.all_fit) t.in_three u

    pub second_fits : p + length y ≤ length n
    second_fits = left_room one_left y z refl

    module _ {n' : List A} {p' : ℕ} (v : Wrote n p y n' p') where
      pub third_fits : p' + length z ≤ length n'
      third_fits = (left_next one_left refl v).rest_fits

      pub wrote_three : {n'' : List A} {p'' : ℕ} → Wrote n' p' z n'' p'' → Wrote o at l n'' p''
      wrote_three w = left_last (left_next one_left refl v) w
