-- What a call answers, case by case.
use Prim.Native.Nat.{ℕ, ◌≤◌, ◌<◌}
use mathlib.Core.Path.{◌≡◌, sym, ◌∙◌}
use mathlib.Core.Bool.{Bool, true, false}
use mathlib.Core.List.{List}
use lib.Dec.{leb}
use lib.ListN.{length}
use borrow.Author.Tests.{le-leb, lt-leb}
use Rattle.bits.specs.Overwrite.{over}
use Rattle.bits.proofs.Choices.{and_intro}
use Rattle.std.specs.Prelude.{Ok, Err}
use Rattle.machine.specs.declared.control.Control.{Control}
use Rattle.machine.specs.declared.refusal.Refusal.TheVariants.{BadLength, ShortOutput, BadImage, Malformed}
use Rattle.machine.specs.Machine.{Machine}
use Rattle.machine.specs.Formed.{sized, formed, well_formed}
use Rattle.machine.specs.Answers.{accepted, provided}
use Rattle.machine.proofs.Checks.{provided_test, provided_rest, checked_answer}
use Rattle.format.specs.Format.{accepts}
use Rattle.image_layout.specs.Image.{image, image_size}
use Rattle.image_layout.specs.Sound.{provided_sound}
use Rattle.image_layout.proofs.SoundLaws.{sound_test}
use Rattle.image.specs.Calls.{save_call, save_check, save_of, parts_call, load_check, load_of}

-- ---- save
module _ (m : Machine) (out : List ℕ) where
  pub save_unsized : sized m ≡ false → save_call (Err BadLength) out ≡ save_of m out
  unfolding save_of save_check
  save_unsized s = rw s

  pub save_malformed : sized m ≡ true → formed m ≡ false → save_call (Err Malformed) out ≡ save_of m out
  unfolding save_of save_check
  save_malformed s f = rw (s, f)

  pub save_short : sized m ≡ true → formed m ≡ true → length out < image_size → save_call (Err ShortOutput) out ≡ save_of m out
  unfolding save_of save_check
  save_short s f h = rw (s, f, lt-leb image_size (length out) h)

  pub save_written : sized m ≡ true → formed m ≡ true → image_size ≤ length out → save_call (Ok tt) (over out 0 (image.put m)) ≡ save_of m out
  unfolding save_of save_check
  save_written s f h = rw (s, f, le-leb image_size (length out) h)

  -- what is known where an image was written
  pub written_means : (save_of m out).answer ≡ accepted tt → well_formed m ≡ true
  unfolding save_of save_check
  written_means e =
      let room = provided (leb image_size (length out)) 8 (accepted tt) in
      let all = sym (checked_answer (save_check m out) out (over out 0 (image.put m))) ∙ e in
      let rest = provided_rest (sized m) 4 (provided (formed m) 10 room) tt all in
      and_intro (sized m) (formed m) (provided_test (sized m) 4 (provided (formed m) 10 room) tt all) (provided_test (formed m) 10 room tt rest)

-- ---- load
module _ (bs : List ℕ) (m : Machine) where
  pub load_unsized : sized m ≡ false → parts_call (Err BadLength) m ≡ load_of bs m
  unfolding load_of load_check
  load_unsized s = rw s

  pub load_bad : sized m ≡ true → accepts image bs ≡ false → {g : ℕ} → g ≡ image.good bs → parts_call (Err (BadImage g)) m ≡ load_of bs m
  unfolding load_of load_check
  load_bad s a e = rw (s, a, e)

  pub load_taken : sized m ≡ true → accepts image bs ≡ true → {k : Machine} (c : Control) → k ≡ image.get bs → parts_call (Ok c) k ≡ load_of bs m
  unfolding load_of load_check
  load_taken s a c g = rw (s, a, g)

-- what is known where an image is taken
pub taken_means : (fits : Bool) (bs : List ℕ) → load_check fits bs ≡ accepted tt → (fits ≡ true) × (accepts image bs ≡ true)
unfolding load_check
taken_means fits bs e =
    let sound = provided_sound image bs (accepted tt) in
    (provided_test fits 4 sound tt e, sound_test image bs (accepted tt) tt (provided_rest fits 4 sound tt e))

-- the answer of a load, and its machine where the image is taken
pub load_answer : (bs : List ℕ) (m : Machine) → (load_of bs m).answer ≡ load_check (sized m) bs
unfolding load_of
load_answer bs m = checked_answer (load_check (sized m) bs) m (image.get bs)

pub load_machine : (bs : List ℕ) (m : Machine) → load_check (sized m) bs ≡ accepted tt → (load_of bs m).after ≡ image.get bs
unfolding load_of
load_machine bs m e = rw e
