-- What array::from_fn makes, where its function changes nothing.
use Rattle.std.proofs.Common.{ℕ, zero, suc, ◌≡◌, ◌+◌, ◌<◌, List, get_or, sym, ◌∙◌, subst, arith, zero-add, add-zero}
use Rattle.std.specs.Array.{IsFromFnResult, IsFromFnResultFrom}
use denote.Param.Members.{Mut, Called}
use lib.Seq.{ext_get_or}
use Rattle.bits.specs.Values.{values}
use Rattle.bits.proofs.Values.{values_from_0, values_long}

module _ {F B : Type 0} (g : Mut F (ℕ × Unit {0}) B) (f : F) (h : ℕ → B) (same : (i : ℕ) (y : B) (q : F) → Called g f (i, tt) y q → (q ≡ f) × (y ≡ h i)) where
  from_there : (ys : List B) (d : B) (i n k : ℕ) → IsFromFnResultFrom g f ys i n → k < n → get_or ys (i + k) d ≡ h (i + k)
  from_there ys d i zero k r l = absurd (omega arith)
  from_there ys d i (suc n) zero r l = rw add-zero (r.2.1 d ∙ (same i r.1 r.0 r.3).1)
  from_there ys d i (suc n) (suc k) r l =
      let e : i + suc k ≡ i + 1 + k = omega arith in
      let next = subst (λ p. IsFromFnResultFrom g p ys (i + 1) n) (same i r.1 r.0 r.3).0 r.4 in
      rw e (from_there ys d (i + 1) n k next (omega arith))

  pub from_fn_values : (ys : List B) (d : B) (n : ℕ) → IsFromFnResult g f ys n → ys ≡ values 0 n h
  from_fn_values ys d n r =
      ext_get_or d ys (values 0 n h) (r.long ∙ sym (values_long h 0 n))
      (λ k l. rw zero-add at (from_there ys d 0 n k r.each (rw r.long at l)) ∙ sym (values_from_0 h d n k (rw r.long at l)))
