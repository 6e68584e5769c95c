-- What is answered of bytes that are to be an image, and what is known of those that were accepted.
use mathlib.Core.Path.{◌≡◌, refl, sym, ◌∙◌}
use mathlib.Core.Bool.{Bool, true, false, cond}
use mathlib.Core.List.{List, [], ◌∷◌}
use mathlib.Core.Logic.{◌⊎◌, inl, inr}
use lib.ListN.{length}
use Rattle.std.specs.Prelude.{Ok, Err}
use Prim.Native.Nat.{ℕ}
use Rattle.machine.specs.Answers.{Told, accepted, refused}
use Rattle.machine.proofs.Checks.{refused_accepted}
use Rattle.format.specs.Format.{Format, accepts}
use Rattle.format.proofs.Lawful.{accepts_yes, accepts_not_long, accepts_not_good}
use Rattle.image_layout.specs.Sound.{scanned, provided_sound}

-- what is answered by how many bytes there are and how far they are good
module _ {A : Type 0} (f : Format A) (bs : List ℕ) {n g : ℕ} (size : n ≡ f.size) (good : g ≡ f.good bs) where
  pub scanned_ok : length bs ≡ n → g ≡ n → Ok tt ≡ scanned f bs
  scanned_ok h k = rw (accepts_yes f bs (h ∙ size) (sym good ∙ k ∙ size))

  pub scanned_err : ((length bs ≡ n) × (g ≡ n → ⊥)) ⊎ (length bs ≡ n → ⊥) → Err g ≡ scanned f bs
  scanned_err (inl (h, k)) = rw (accepts_not_good f bs (h ∙ size) (λ e. k (good ∙ e ∙ sym size)), good)
  scanned_err (inr h) = rw (accepts_not_long f bs (λ e. h (e ∙ sym size)), good)

pub sound_test : {A B : Type 0} (f : Format A) (bs : List ℕ) (rest : Told B) (b : B) → provided_sound f bs rest ≡ accepted b → accepts f bs ≡ true
sound_test {B = B} f bs rest b e = go (accepts f bs) e
  where
    go : (t : Bool) → cond t rest (refused 9 (f.good bs ∷ [])) ≡ accepted b → t ≡ true
    go true e = refl
    go false e = refused_accepted (sym e)
