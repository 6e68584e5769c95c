-- The code looks for a word where it works, on the control part or on the stores, and refuses, stalls or does it in one go; the definition
-- decodes, decides and then acts. Both come to the same.
use Prim.Native.Nat.{ℕ}
use mathlib.Core.Path.{◌≡◌, refl, sym, ap, ◌∙◌}
use mathlib.Core.Bool.{Bool, true, false}
use mathlib.Core.List.{List}
use Rattle.bits.specs.Field.{field}
use Rattle.machine.specs.declared.control.Control.{Control}
use Rattle.machine.specs.Control.{wait_of, matrix_bank, matrix_owns}
use Rattle.machine.specs.Machine.{Machine, Stores, machine_with}
use Rattle.machine.specs.Answers.{Told, accepted, refused}
use Rattle.machine.specs.Outcomes.{Progress, told_outcome}
use Rattle.word_rules.specs.declared.stepped.Stepped.{Stepped}
use Rattle.word_rules.specs.declared.instruction.Instruction.{Instruction}
use Rattle.word_rules.specs.declared.instruction.Instruction.TheVariants.{Nop, Cell, Bank, Scalar, Sync, Config}
use Rattle.word_rules.specs.Table.{control_rows, store_rows, has, said, decode_of}
use Rattle.word_rules.specs.Waits.{held_by, Gate, Open, Closed, named_by, own_gate, gate_of}
use Rattle.word_rules.specs.After.{word_after, control_after, settings_after, stores_after}
use Rattle.word_rules.specs.Offered.{gate_outcome, if_open, wait_first, with_cause, lifted_now, blocks_now, cause_in, ControlStep, came, told_stepped, dropped_if, dropped_on, control_gate, control_offer, owner_gate, store_gate, StoreStep, left, store_offer}
use Rattle.word_rules.proofs.Rows.{decode_on_control, decode_on_stores}
use Rattle.word_rules.proofs.Saying.{Only, OnControl, OnStores, control_only, store_only}
use Rattle.word_rules.proofs.Deciding.{told_gate, gate_now}
use Rattle.word_rules.proofs.Dropping.{dropped_after}
use Rattle.step_rules.specs.Step.{stepped, machine_after, by_gate, gated_of, by_decoded, offer_of}
use Rattle.step_rules.proofs.Ways.{offered_as}

-- a word on the control part leaves settings and stores alone
settings_left : (i : Instruction) (t : ℕ) (s : List ℕ) → OnControl i → settings_after i t s ≡ s
settings_left Nop t s y = refl
settings_left (Cell x) t s y = refl
settings_left (Bank x) t s y = refl
settings_left (Scalar x) t s y = refl
settings_left (Sync x) t s y = refl
settings_left (Config x) t s y = absurd y

stores_left : (i : Instruction) (t p q : ℕ) (s : List ℕ) (k : Stores) → OnControl i → stores_after i t p q s k ≡ k
stores_left Nop t p q s k y = refl
stores_left (Cell x) t p q s k y = absurd y
stores_left (Bank x) t p q s k y = refl
stores_left (Scalar x) t p q s k y = absurd y
stores_left (Sync x) t p q s k y = refl
stores_left (Config x) t p q s k y = absurd y

-- a word on the stores leaves the control part alone, and asks no mutex
control_left : (i : Instruction) (c : Control) (t : ℕ) → OnStores i → word_after c t i ≡ c
control_left Nop c t y = refl
control_left (Cell x) c t y = refl
control_left (Bank x) c t y = absurd y
control_left (Scalar x) c t y = refl
control_left (Sync x) c t y = absurd y
control_left (Config x) c t y = refl

owner_gate_lem : (i : Instruction) (c : Control) (t : ℕ) → OnStores i → own_gate c t i ≡ owner_gate (matrix_owns c 1) (matrix_bank c 1) i
owner_gate_lem Nop c t y = refl
owner_gate_lem (Cell x) c t y = refl
owner_gate_lem (Bank x) c t y = refl
owner_gate_lem (Scalar x) c t y = refl
owner_gate_lem (Sync x) c t y = absurd y
owner_gate_lem (Config x) c t y = refl

at_gate : (m : Machine) (t : ℕ) (i : Instruction) (k : Gate) → gate_of m.control t i ≡ k → by_gate m t i k ≡ gated_of m t i
unfolding gated_of
at_gate m t i k e = ap (λ (g : Gate). by_gate m t i g) (sym e)

-- a word's gate, by the block bits that its thread's wait stalls now, and what it is held by
gate_by : (c : Control) (t : ℕ) (i : Instruction) (blocks cause : ℕ) → blocks ≡ blocks_now c (wait_of c t) → cause ≡ cause_in (held_by c (wait_of c t)) →
    gate_of c t i ≡ told_gate cause (control_gate blocks c t i)
unfolding gate_of
gate_by c t i blocks cause e h = rw (e, h) (gate_now c t (wait_of c t) i)

-- the thread's wait: the block bits that it stalls now, what it is held by, and whether it is lifted
module _ (c : Control) (s : List ℕ) (k : Stores) (t blocks cause : ℕ) (drops : Bool) (eb : blocks ≡ blocks_now c (wait_of c t)) (ec : cause ≡ cause_in (held_by c (wait_of c t))) (ed : drops ≡ lifted_now c (wait_of c t)) where
  abbrev whole : Machine
  whole = machine_with c s k

  -- on the control part, by the gate that the word comes to
  control_at : (i : Instruction) (g : Gate) → OnControl i →
      stepped (with_cause cause (gate_outcome g)) (machine_with (if_open g (word_after (dropped_if c t drops) t i) c) s k) ≡ by_gate whole t i (told_gate cause g)
  unfolding machine_after
  control_at i Open y = rw (dropped_after c t drops i ed, settings_left i t s y, stores_left i t (matrix_bank c 0) (matrix_bank c 1) s k y)
  control_at i (Closed n z) y = refl

  control_offered : (x : Told Instruction) → Only OnControl x → (r : Stepped) → told_stepped r ≡ control_offer blocks drops c t x →
      stepped (with_cause cause (told_outcome r.outcome)) (machine_with r.control s k) ≡ by_decoded whole t x
  unfolding control_offer
  control_offered (refused n vs) y r e = ap (λ (z : ControlStep). stepped (with_cause cause z.outcome) (machine_with z.control s k)) e
  control_offered (accepted i) y r e =
      let g = control_gate blocks c t i in
      ap (λ (z : ControlStep). stepped (with_cause cause z.outcome) (machine_with z.control s k)) e
      ∙ (control_at i g y ∙ at_gate whole t i (told_gate cause g) (gate_by c t i blocks cause eb ec))

  -- on the stores, in the same way
  stores_at : (i : Instruction) (g : Gate) → OnStores i →
      stepped (with_cause cause (gate_outcome g)) (machine_with (dropped_on (with_cause cause (gate_outcome g)) c t drops) (if_open g (settings_after i t s) s) (if_open g (stores_after i t (matrix_bank c 0) (matrix_bank c 1) s k) k))
      ≡ by_gate whole t i (told_gate cause g)
  unfolding machine_after
  stores_at i Open y =
      let e : dropped_if c t drops ≡ control_after c t i = sym (control_left i (dropped_if c t drops) t y) ∙ dropped_after c t drops i ed in
      rw e
  stores_at i (Closed n z) y = refl

  stores_offered : (owned : Bool) → owned ≡ matrix_owns c 1 → (x : Told Instruction) → Only OnStores x → (o : Told Progress) (s' : List ℕ) (k' : Stores) →
      left o s' k' ≡ store_offer blocks owned t (matrix_bank c 0) (matrix_bank c 1) x s k →
      stepped (with_cause cause o) (machine_with (dropped_on (with_cause cause o) c t drops) s' k') ≡ by_decoded whole t x
  unfolding store_offer
  stores_offered owned w (refused n vs) y o s' k' p =
      ap (λ (z : StoreStep). stepped (with_cause cause z.outcome) (machine_with (dropped_on (with_cause cause z.outcome) c t drops) z.settings z.kept)) p
  stores_offered owned w (accepted i) y o s' k' p =
      let g = store_gate blocks owned (matrix_bank c 1) i in
      let own = owner_gate_lem i c t y ∙ ap (λ (b : Bool). owner_gate b (matrix_bank c 1) i) (sym w) in
      let e : gate_of c t i ≡ told_gate cause g = gate_by c t i blocks cause eb ec ∙ ap (λ (z : Gate). told_gate cause (wait_first (named_by blocks i) z)) own in
      ap (λ (z : StoreStep). stepped (with_cause cause z.outcome) (machine_with (dropped_on (with_cause cause z.outcome) c t drops) z.settings z.kept)) p
      ∙ (stores_at i g y ∙ at_gate whole t i (told_gate cause g) e)

  -- a word offered, by whether its opcode works on the control part
  module _ (w op : ℕ) (ew : op ≡ field 24 8 w) (b : Bool) (eo : b ≡ has control_rows op) where
    on_control_at : b ≡ true → decode_of w ≡ said control_rows op w
    on_control_at h = rw ew (decode_on_control w (sym (rw ew at eo) ∙ h))

    on_stores_at : b ≡ false → decode_of w ≡ said store_rows op w
    on_stores_at h = rw ew (decode_on_stores w (sym (rw ew at eo) ∙ h))

    pub offer_on_control : b ≡ true → (r : Stepped) → told_stepped r ≡ control_offer blocks drops c t (said control_rows op w) →
        (o : Told Progress) → o ≡ with_cause cause (told_outcome r.outcome) → stepped o (machine_with r.control s k) ≡ offer_of whole t w
    offer_on_control h r e o p =
        ap (λ (z : Told Progress). stepped z (machine_with r.control s k)) p ∙
        control_offered (said control_rows op w) (control_only op w) r e
        ∙ offered_as whole t w (said control_rows op w) (on_control_at h)

    pub offer_on_stores : b ≡ false → (owned : Bool) → owned ≡ matrix_owns c 1 → (o : Told Progress) (s' : List ℕ) (k' : Stores) →
        left o s' k' ≡ store_offer blocks owned t (matrix_bank c 0) (matrix_bank c 1) (said store_rows op w) s k →
        (r : Stepped) → told_stepped r ≡ came (with_cause cause o) (dropped_on (with_cause cause o) c t drops) →
        stepped (told_outcome r.outcome) (machine_with r.control s' k') ≡ offer_of whole t w
    offer_on_stores h owned q o s' k' p r e =
        ap (λ (z : ControlStep). stepped z.outcome (machine_with z.control s' k')) e
        ∙ (stores_offered owned q (said store_rows op w) (store_only op w) o s' k' p
        ∙ offered_as whole t w (said store_rows op w) (on_stores_at h))
