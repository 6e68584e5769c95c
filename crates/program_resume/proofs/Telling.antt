-- What is told of a run, and an image written into the rest of the output.
use Rattle.std.specs.Prelude.{Result}
use Rattle.machine.specs.declared.refusal.Refusal.{Refusal}
use Prim.Native.Nat.{ℕ, ◌+◌, ◌-◌, ◌≤◌}
use mathlib.Core.Path.{◌≡◌, sym, ap, ◌∙◌}
use mathlib.Core.Bool.{true}
use mathlib.Core.List.{List, [], ◌++◌, append-nil}
use native.Mathlib.Nat.{zero-add}
use native.Mathlib.Omega.{arith}
use lib.ListN.{length, take, drop, length-drop}
use lib.Seq.{take_all, drop-drop, drop-length}
use Rattle.bits.specs.Overwrite.{over, Wrote}
use Rattle.bits.proofs.Choices.{and_left, and_right}
use Rattle.machine.specs.Machine.{Machine}
use Rattle.machine.specs.Formed.{sized, formed, well_formed}
use Rattle.machine.specs.Answers.{Call}
use Rattle.image_layout.specs.Image.{image, image_size}
use Rattle.image_layout.proofs.ImageLaws.{image_lawful, formed_ok}
use Rattle.image.specs.Calls.{save_call, save_of}
use Rattle.image.proofs.Answers.{save_written}
use Rattle.program_resume.specs.Told.{image_bytes}

-- what is written from the start of a list's rest is written at the place where the rest begins
over_rest : (out : List ℕ) (at : ℕ) (bs : List ℕ) → at ≤ length out →
    take at out ++ (over (take (length out - at) (drop at out)) 0 bs ++ drop (length out - at) (drop at out)) ≡ over out at bs
unfolding over
over_rest out at bs h =
    let k = length out - at in
    let d : length (drop at out) ≡ k = length-drop at out in
    let t : take k (drop at out) ≡ drop at out = take_all k (drop at out) (omega arith) in
    let e : drop k (drop at out) ≡ [] = rw (← d) (drop-length (drop at out)) in
    rw (t, e, append-nil, zero-add, drop-drop)

pub image_long : (m : Machine) → well_formed m ≡ true → length (image_bytes m) ≡ image_size
unfolding image_bytes
image_long m h = image_lawful.long m (formed_ok m h)

pub image_written : (m : Machine) (out : List ℕ) (at : ℕ) (r : Result (Unit {0}) Refusal) (o : List ℕ) → well_formed m ≡ true → at + image_size ≤ length out →
    save_call r o ≡ save_of m (take (length out - at) (drop at out)) →
    Wrote out at (image_bytes m) (take at out ++ (o ++ drop (length out - at) (drop at out))) (at + image_size)
unfolding image_bytes
image_written m out at r o h room e =
    let k = length out - at in
    let rest = take k (drop at out) in
    let d : length (drop at out) ≡ k = length-drop at out in
    let t : rest ≡ drop at out = take_all k (drop at out) (omega arith) in
    let long : image_size ≤ length rest = rw (t, d) (omega arith) in
    let w = save_written m rest (and_left (sized m) (formed m) h) (and_right (sized m) (formed m) h) long in
    let same : o ≡ over rest 0 (image.put m) = ap (λ (x : Call (List ℕ)). x.after) (e ∙ sym w) in
    record {
      placed = ap (λ (n : ℕ). at + n) (sym (image_lawful.long m (formed_ok m h)));
      list = rw same (over_rest out at (image.put m) (omega arith));
    }
