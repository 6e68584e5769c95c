-- An input cut into its image and what follows.
use Prim.Native.Nat.{ℕ, ◌-◌, ◌≤◌, ◌<◌, min}
use mathlib.Core.Path.{◌≡◌, refl, sym, ◌∙◌}
use mathlib.Core.List.{List}
use native.Mathlib.Omega.{arith}
use lib.ListN.{length, take, drop, length-drop, drop_of_length-le}
use lib.Seq.{take_all, take-length, drop-length, length-take-le}
use Rattle.std.proofs.Common.{◌⊎◌, inl, inr}
use Rattle.std.proofs.Math.Nat.{min-eq_left, min-eq_right}
use Rattle.std.proofs.lemmas.Bool.{cases_lt}
use Rattle.image_layout.specs.Image.{image_size}
use Rattle.program_resume.specs.Resume.{printed_of, resume_of, Split}

split_short : (bs : List ℕ) → length bs < image_size → Split bs (length bs)
split_short bs h =
    let few : length bs ≤ image_size = omega arith in
    record {
      within = omega arith;
      short = few;
      image = take-length bs ∙ sym (take_all image_size bs few);
      rest = drop-length bs ∙ sym (drop_of_length-le bs few);
    }

split_long : (bs : List ℕ) → image_size ≤ length bs → Split bs image_size
split_long bs h = record { within = h; short = omega arith; image = refl; rest = refl }

pub split_min : (bs : List ℕ) (n : ℕ) → n ≡ min (length bs) image_size → Split bs n
split_min bs n e = go (cases_lt (length bs) image_size)
  where
    go : (length bs < image_size) ⊎ (image_size ≤ length bs) → Split bs n
    go (inl h) = rw (e, min-eq_left {n = length bs} {m = image_size} (omega arith)) (split_short bs h)
    go (inr h) = rw (e, min-eq_right {n = image_size} {m = length bs} h) (split_long bs h)

pub image_short : (bs : List ℕ) (n : ℕ) → Split bs n → length (take n bs) ≤ image_size
image_short bs n s = let e = length-take-le n bs s.within in let h = s.short in omega arith

pub whole_parts : (bs : List ℕ) (n : ℕ) → Split bs n → printed_of (take n bs) (take (length bs - n) (drop n bs)) ≡ resume_of bs
unfolding resume_of
whole_parts bs n s =
    let d : length (drop n bs) ≡ length bs - n = length-drop n bs in
    let few : length (drop n bs) ≤ length bs - n = omega arith in
    rw (take_all (length bs - n) (drop n bs) few, s.image, s.rest)
