-- An offered word, by the two ways that it can go: it is held up and leaves all as it was, or it is left to what it waits for itself.
use Prim.Native.Nat.{ℕ}
use mathlib.Core.Path.{◌≡◌, sym, ◌∙◌}
use mathlib.Core.Bool.{Bool, true, false, ◌||◌, not}
use mathlib.Core.List.{List}
use Rattle.std.specs.Prelude.{Some, None}
use Rattle.bits.proofs.Choices.{never}
use Rattle.machine.specs.declared.control.Control.{Control}
use Rattle.machine.specs.declared.refusal.Outcome.{Outcome}
use Rattle.machine.specs.Machine.{Stores}
use Rattle.machine.specs.Answers.{Told, accepted, provided}
use Rattle.machine.specs.Outcomes.{stalled, told_outcome}
use Rattle.word_rules.specs.declared.instruction.Instruction.{Instruction}
use Rattle.word_rules.specs.Waits.{named_by, own_gate}
use Rattle.word_rules.specs.After.{word_after, settings_after, stores_after}
use Rattle.word_rules.specs.Offered.{gate_outcome, if_open, HeldUp, came, dropped_if, control_offer, owner_gate, left, store_offer}

-- a word that says i if it and its fields are fine: 2, then 3
abbrev pub says : Bool → Bool → Instruction → Told Instruction
says fine-word fine-field i = provided fine-word 2 (provided fine-field 3 (accepted i))

-- on the control part, where nothing but its thread's wait can refuse or stall the word: held by it
pub control_held : {s : Bool} (blocks : ℕ) (drops : Bool) (c : Control) (t : ℕ) (i : Instruction) → s ≡ named_by blocks i → s ≡ true →
    came (accepted (stalled 101 0)) c ≡ control_offer blocks drops c t (accepted i)
unfolding control_offer
control_held blocks drops c t i e h = rw (sym e ∙ h)

-- any word on the control part, left to what it waits for itself
pub control_going : (a b s : Bool) (blocks : ℕ) (drops : Bool) (c : Control) (t : ℕ) (i : Instruction) → s ≡ named_by blocks i → (not a || (not b || s)) ≡ false →
    came (gate_outcome (own_gate c t i)) (if_open (own_gate c t i) (word_after (dropped_if c t drops) t i) c) ≡ control_offer blocks drops c t (says a b i)
unfolding control_offer
control_going true true s blocks drops c t i e h = rw (sym e ∙ h)
control_going true false s blocks drops c t i e h = never h
control_going false b s blocks drops c t i e h = never h

-- on the stores: held up
pub store_held_up : (a b : Bool) (blocks : ℕ) (owned : Bool) (t bankA bankB : ℕ) (i : Instruction) (u : List ℕ) (k : Stores) (o : Outcome) →
    HeldUp a b (named_by blocks i) (Some o) → left (told_outcome o) u k ≡ store_offer blocks owned t bankA bankB (says a b i) u k
unfolding store_offer
store_held_up true true blocks owned t bankA bankB i u k o h = rw (h.1 i, h.0)
store_held_up true false blocks owned t bankA bankB i u k o h = rw (h.1 i)
store_held_up false b blocks owned t bankA bankB i u k o h = rw (h.1 i)

-- or left to what it waits for itself
pub store_going : (a b : Bool) (blocks : ℕ) (owned : Bool) (t bankA bankB : ℕ) (i : Instruction) (u : List ℕ) (k : Stores) → HeldUp a b (named_by blocks i) None →
    left (gate_outcome (owner_gate owned bankB i)) (if_open (owner_gate owned bankB i) (settings_after i t u) u) (if_open (owner_gate owned bankB i) (stores_after i t bankA bankB u k) k)
    ≡ store_offer blocks owned t bankA bankB (says a b i) u k
unfolding store_offer
store_going a b blocks owned t bankA bankB i u k h = rw (h.0, h.1, h.2)
