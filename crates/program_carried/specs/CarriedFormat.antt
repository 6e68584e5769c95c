-- Record 38, what an expander carries, as a format.
use Rattle.std.specs.Prelude.{ℕ, ◌+◌, ◌*◌, ◌≤◌, true, cond, Option, Some, None, List, ◌≡◌, eqb, length}
use Rattle.bits.specs.Bytes.{Bytes}
use Rattle.bits.specs.Ranges.{all_at_most}
use Rattle.machine.specs.Sizes.{half_most, word_most}
use Rattle.format.specs.Format.{Format, num, dep, both, numbers, via, kind, accepts, most_after, head_bytes}
use Rattle.expander_rules.specs.Sizes.{slot_count}
use Rattle.expander_rules.specs.Replay.{taking}
use Rattle.expander_rules.specs.State.{carry}
use Rattle.expander_rules.specs.declared.Carried.{Carried}
use Rattle.expander_rules.specs.declared.Load.{Load}

-- ---- how many bytes: a load after its kind byte, and whole; the slots; the body; the record with its head
abbrev pub taking_bytes : ℕ
taking_bytes = 4 + 4 + 1

abbrev pub load_bytes : ℕ
load_bytes = 1 + taking_bytes

abbrev pub slot_bytes : ℕ
slot_bytes = slot_count * 4

abbrev pub carried_bytes : ℕ
carried_bytes = 2 + (slot_bytes + load_bytes)

abbrev pub record_bytes : ℕ
record_bytes = head_bytes + carried_bytes

-- ---- a load

-- its kinds: 0 none, 1 one that is on
abbrev pub kind_most : ℕ
kind_most = 1

-- kind (1 byte), next slot (4), words to come (4), shown (1: 0 or 1); with kind 0, no load, the rest is zero
abbrev pub taking_numbers : ℕ → Format (ℕ × (ℕ × ℕ))
taking_numbers k = both (num 4 0 (most_after k word_most)) (both (num 4 0 (most_after k word_most)) (num 1 0 (most_after k 1)))

abbrev pub load_numbers : Format (ℕ × (ℕ × (ℕ × ℕ)))
load_numbers = dep (num 1 0 kind_most) taking_numbers taking_bytes

unfoldable pub load_from : ℕ × (ℕ × (ℕ × ℕ)) → Option Load
load_from t = cond (eqb t.0 0) None (taking t.1.0 t.1.1.0 (eqb t.1.1.1 1))

abbrev pub numbers_of_load : Option Load → ℕ × (ℕ × (ℕ × ℕ))
numbers_of_load None = (0, (0, (0, 0)))
numbers_of_load (Some load) = (1, (load.next, (load.left, cond load.shown 1 0)))

abbrev pub load_format : Format (Option Load)
load_format = via load_from numbers_of_load load_numbers

-- ---- the whole

-- the body: high mask (2), 32 slots (4 each), load
abbrev pub carried_format : Format Carried
carried_format =
    via (λ t. carry t.0 t.1.0 t.1.1) (λ c. (c.high_mask, (c.slots, c.load)))
    (both (num 2 0 half_most) (both (numbers slot_count 4 word_most) load_format))

abbrev pub record_format : Format Carried
record_format = kind 38 carried_format

-- what a load's numbers may be: of 4 bytes each
abbrev pub InBytes : Option Load → Type 0
InBytes None = Unit
InBytes (Some load) = (load.next ≤ word_most) × (load.left ≤ word_most)

-- what is carried is read back from its record; and each sound record is that of what is read from it
pub record CarriedRecords : Type 0 where
  pub back : (c : Carried) → c.high_mask ≤ half_most → length c.slots ≡ slot_count → all_at_most word_most c.slots ≡ true → InBytes c.load →
      (accepts record_format (record_format.put c) ≡ true) × (record_format.get (record_format.put c) ≡ c)
  pub own : (bs : List ℕ) → Bytes bs → accepts record_format bs ≡ true → record_format.put (record_format.get bs) ≡ bs
