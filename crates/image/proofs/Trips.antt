-- What is saved loads again, and what loads saves to its own bytes.
use Prim.Native.Nat.{ℕ, ◌≤◌}
use mathlib.Core.Path.{◌≡◌, refl, sym, ap, ◌∙◌}
use mathlib.Core.Bool.{true}
use mathlib.Core.List.{List, ◌++◌}
use lib.ListN.{length, take, drop}
use lib.Seq.{take_at}
use native.Mathlib.Nat.{zero-add}
use Rattle.bits.specs.Bytes.{Bytes}
use Rattle.bits.specs.Overwrite.{over}
use Rattle.bits.proofs.Choices.{and_left, and_right}
use Rattle.machine.specs.Machine.{Machine}
use Rattle.machine.specs.Formed.{sized, formed, well_formed}
use Rattle.machine.specs.Answers.{accepted, Call, call}
use Rattle.format.specs.Format.{accepts}
use Rattle.format.proofs.Lawful.{whole_accepts, whole_get, whole_put, whole_ok}
use Rattle.image_layout.specs.Image.{image, image_size}
use Rattle.image_layout.proofs.MarkLaws.{mark_at}
use Rattle.image_layout.proofs.ImageLaws.{image_lawful, formed_ok, ok_formed}
use Rattle.image.specs.Calls.{save_of, load_of}
use Rattle.image.specs.Promises.{RoundTrips, ImageFacts}
use Rattle.image.proofs.Answers.{save_written, written_means, taken_means, load_taken, load_answer, load_machine}

-- from the start of a list
over_start : (out bs : List ℕ) → over out 0 bs ≡ bs ++ drop (length bs) out
unfolding over
over_start out bs = rw zero-add

-- what is saved of a well-formed machine
saved : (m : Machine) (out : List ℕ) → well_formed m ≡ true → image_size ≤ length out →
    save_of m out ≡ call (accepted tt) (image.put m ++ drop image_size out)
saved m out h room =
    let long : length (image.put m) ≡ image_size = image_lawful.long m (formed_ok m h) in
    sym (save_written m out (and_left (sized m) (formed m) h) (and_right (sized m) (formed m) h) room)
    ∙ ap (call (accepted tt)) (over_start out (image.put m) ∙ ap (λ (n : ℕ). image.put m ++ drop n out) long)

loads_back : (m old : Machine) (out : List ℕ) → well_formed m ≡ true → sized old ≡ true → image_size ≤ length out →
    load_of (take image_size (save_of m out).after) old ≡ call (accepted tt) m
loads_back m old out h s room =
    let ok = formed_ok m h in
    let bs = image.put m in
    let there : take image_size (save_of m out).after ≡ bs =
    ap (λ (r : Call (List ℕ)). take image_size r.after) (saved m out h room) ∙ take_at bs (drop image_size out) image_size (image_lawful.long m ok) in
    ap (λ (b : List ℕ). load_of b old) there
    ∙ sym (load_taken bs old s (whole_accepts image image_lawful m ok) m.control (sym (whole_get image image_lawful m ok)))

-- what is known where an image is taken: the bytes are accepted, and their machine comes back
taken : (bs : List ℕ) (old : Machine) → (load_of bs old).answer ≡ accepted tt →
    (accepts image bs ≡ true) × ((load_of bs old).after ≡ image.get bs)
taken bs old e =
    let fine = sym (load_answer bs old) ∙ e in
    ((taken_means (sized old) bs fine).1, load_machine bs old fine)

formed_after : (bs : List ℕ) (old : Machine) → Bytes bs → (load_of bs old).answer ≡ accepted tt → well_formed (load_of bs old).after ≡ true
formed_after bs old b e =
    let t = taken bs old e in
    ap well_formed t.1 ∙ ok_formed (image.get bs) (whole_ok image image_lawful bs b t.0)

saves_back : (bs : List ℕ) (old : Machine) (out : List ℕ) → Bytes bs → (load_of bs old).answer ≡ accepted tt → image_size ≤ length out →
    save_of (load_of bs old).after out ≡ call (accepted tt) (bs ++ drop image_size out)
saves_back bs old out b e room =
    let t = taken bs old e in
    saved (load_of bs old).after out (formed_after bs old b e) room
    ∙ ap (λ (l : List ℕ). call (accepted tt) (l ++ drop image_size out))
    (ap image.put t.1 ∙ whole_put image image_lawful bs b t.0)

pub round_trips : RoundTrips
round_trips =
    record {
      loads_back = loads_back;
      saves_back = saves_back;
      saves = λ m out room. (λ h. saved m out h room, written_means m out);
      formed = formed_after;
    }

pub image_facts : ImageFacts
image_facts = record { size = refl; savable = λ m. (formed_ok m, ok_formed m); mark_place = mark_at }
