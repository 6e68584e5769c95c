-- What saving and loading promise together (condition 2): "Saved images load to the state they were saved from, and each accepted
-- image saves to its own bytes."
use Rattle.std.specs.Prelude.{ℕ, ◌*◌, ◌/◌, ◌%◌, ◌<◌, ◌≤◌, ◌≡◌, true, false, List, ◌++◌, length, take, drop, get_or}
use Rattle.bits.specs.Field.{flag}
use Rattle.bits.specs.Bytes.{Bytes}
use Rattle.machine.specs.Machine.{Machine}
use Rattle.machine.specs.Formed.{sized, well_formed}
use Rattle.machine.specs.Answers.{accepted, call}
use Rattle.image_layout.specs.Marks.{marks_format}
use Rattle.image_layout.specs.Image.{image, image_size}
use Rattle.image.specs.Calls.{save_of, load_of}

pub record RoundTrips : Type 0 where
  -- what is saved of a well-formed machine loads to that machine, whatever was in the parts before
  pub loads_back : (m old : Machine) (out : List ℕ) → well_formed m ≡ true → sized old ≡ true → image_size ≤ length out →
      load_of (take image_size (save_of m out).after) old ≡ call (accepted tt) m
  -- an accepted image saves to its own bytes
  pub saves_back : (bs : List ℕ) (old : Machine) (out : List ℕ) → Bytes bs → (load_of bs old).answer ≡ accepted tt → image_size ≤ length out →
      save_of (load_of bs old).after out ≡ call (accepted tt) (bs ++ drop image_size out)
  -- given room, a machine is written exactly when it is well formed
  pub saves : (m : Machine) (out : List ℕ) → image_size ≤ length out →
      (well_formed m ≡ true → save_of m out ≡ call (accepted tt) (image.put m ++ drop image_size out)) ×
      ((save_of m out).answer ≡ accepted tt → well_formed m ≡ true)
  -- what an accepted image gives is well formed
  pub formed : (bs : List ℕ) (old : Machine) → Bytes bs → (load_of bs old).answer ≡ accepted tt → well_formed (load_of bs old).after ≡ true

pub record ImageFacts : Type 0 where
  pub size : image.size ≡ 48473
  -- a machine is well formed exactly when the format can write it
  pub savable : (m : Machine) → (well_formed m ≡ true → image.Ok m) × (image.Ok m → well_formed m ≡ true)
  -- row r's mark is bit r mod 8 of byte r / 8
  pub mark_place : (n r : ℕ) (bs : List ℕ) → r < n * 8 → get_or ((marks_format n).get bs) r false ≡ flag (r % 8) (get_or bs (r / 8) 0)
