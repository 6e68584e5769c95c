-- What a call of `save` or `load` answers, in document 01's numbers, and all that is lent as it is afterwards.
use Rattle.std.specs.Prelude.{ℕ, Bool, List, leb, length, Result, Ok, Err}
use Rattle.bits.specs.Overwrite.{over}
use Rattle.machine.specs.declared.control.Control.{Control}
use Rattle.machine.specs.declared.refusal.Refusal.{Refusal}
use Rattle.machine.specs.Machine.{Machine}
use Rattle.machine.specs.Formed.{sized, formed}
use Rattle.machine.specs.Answers.{Told, accepted, refusal, told, provided, Call, call, checked}
use Rattle.image_layout.specs.Image.{image, image_size}
use Rattle.image_layout.specs.Sound.{provided_sound}

-- what `save` answers, and the output
abbrev pub save_call : Result (Unit {0}) Refusal → List ℕ → Call (List ℕ)
save_call a o = call (told a) o

-- what `load` answers, and the machine
abbrev pub load_call : Result (Unit {0}) Refusal → Machine → Call Machine
load_call a m = call (told a) m

-- the control part that a load leaves: the image's, or the one handed in
abbrev pub loaded_control : Control → Result Control Refusal → Control
loaded_control c (Ok k) = k
loaded_control c (Err r) = c

-- what comes of reading an image into the stores, the control part for its answer, and the machine
abbrev pub parts_call : Result Control Refusal → Machine → Call Machine
parts_call (Ok k) m = call (accepted tt) m
parts_call (Err r) m = call (refusal r) m

-- 4, 10, 8
unfoldable pub save_check : Machine → List ℕ → Told (Unit {0})
save_check m out =
    provided (sized m) 4
    (provided (formed m) 10
    (provided (leb image_size (length out)) 8
    (accepted tt)))

-- the image from the output's start, whose rest is left; refused, nothing is written
unfoldable pub save_of : Machine → List ℕ → Call (List ℕ)
save_of m out = checked (save_check m out) out (over out 0 (image.put m))

-- 4, 9
unfoldable pub load_check : Bool → List ℕ → Told (Unit {0})
load_check fits bs =
    provided fits 4
    (provided_sound image bs
    (accepted tt))

-- the image's machine; refused, the machine is as it was
unfoldable pub load_of : List ℕ → Machine → Call Machine
load_of bs m = checked (load_check (sized m) bs) m (image.get bs)
