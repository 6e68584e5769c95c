-- What a thread's expander carries from one piece of its stream to the next: "the high mask, slots and a half-done load carried between
-- calls" (document 02, K2).
use Rattle.std.specs.Prelude.{ℕ, Bool, true, ◌&&◌, Option, Some, None, List, leb, ltb, replicate}
use Rattle.expander_rules.specs.Sizes.{slot_count, nop_word}
use Rattle.expander_rules.specs.declared.Carried.{Carried}
use Rattle.expander_rules.specs.declared.Load.{Load}

abbrev pub carry : ℕ → List ℕ → Option Load → Carried
carry high s load = record { high_mask = high; slots = s; load = load }

-- a fresh expander has a high mask of zero, NOP in every slot, and no load
abbrev pub fresh_carried : Carried
fresh_carried = carry 0 (replicate slot_count nop_word) None

-- refusal 10 is for "a carried load whose next slot is over 31 or whose words to come are over 32"
abbrev pub load_formed : Option Load → Bool
load_formed None = true
load_formed (Some load) = ltb load.next slot_count && leb load.left slot_count
