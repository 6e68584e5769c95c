-- What a scan says of an image.
use Prim.Native.Nat.{ℕ}
use mathlib.Core.Path.{◌≡◌, refl, sym, ◌∙◌}
use mathlib.Core.Bool.{Bool, true, false, cond}
use mathlib.Core.List.{List}
use Rattle.std.specs.Prelude.{Result, Ok, Err}
use Rattle.machine.specs.Sizes.{config_count}
use Rattle.format.specs.Format.{accepts}
use Rattle.image_layout.specs.Image.{bodies, config_kind, image}
use Rattle.image_layout.specs.Sound.{scanned}

module _ (bs : List ℕ) {r : Result (Unit {0}) ℕ} (e : r ≡ scanned (bodies config_kind config_count) bs) where
  pub scan_bad : {g : ℕ} → r ≡ Err g → (accepts image bs ≡ false) × (g ≡ image.good bs)
  unfolding accepts
  scan_bad {g} p = go (accepts image bs) (sym p ∙ e)
    where
      go : (b : Bool) → ◌≡◌ {A = Result (Unit {0}) ℕ} (Err g) (cond b (Ok tt) (Err (image.good bs))) → (b ≡ false) × (g ≡ image.good bs)
      go true q = (cc, cc)
      go false q = (refl, cc)

  pub scan_taken : r ≡ Ok tt → accepts image bs ≡ true
  unfolding accepts
  scan_taken p = go (accepts image bs) (sym p ∙ e)
    where
      go : (b : Bool) → ◌≡◌ {A = Result (Unit {0}) ℕ} (Ok tt) (cond b (Ok tt) (Err (image.good bs))) → b ≡ true
      go true q = refl
      go false q = cc
