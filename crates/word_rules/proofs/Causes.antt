-- What a closed gate tells.
use Prim.Native.Nat.{ℕ, zero, suc, ◌+◌, ◌-◌, ◌/◌, ◌%◌, ◌<◌, ◌≤◌}
use mathlib.Core.Path.{◌≡◌, refl, sym, ap, ◌∙◌}
use mathlib.Core.Bool.{Bool, true, false, cond, ◌&&◌, ◌||◌}
use mathlib.Core.List.{List, [], ◌∷◌}
use mathlib.Core.Logic.{◌⊎◌, inl, inr}
use native.Mathlib.Nat.{div-one, zero-add}
use native.Mathlib.Numerals.{one-add}
use native.Mathlib.Omega.{arith}
use lib.Dec.{eqb}
use lib.Pow.{shr-shr}
use lib.ListN.{length, get_or}
use borrow.Author.Tests.{eqb-true, eqb-false, ne_eqb}
use Rattle.bits.specs.Field.{flag, low_bit}
use Rattle.bits.proofs.Choices.{and_left, and_right, neither}
use Rattle.machine.specs.declared.control.Wait.{Wait}
use Rattle.machine.specs.declared.control.Wait.TheVariants.{Clear, OnStall, OnSemaphore}
use Rattle.machine.specs.declared.control.Semaphore.{Semaphore}
use Rattle.machine.specs.declared.control.Control.{Control}
use Rattle.machine.specs.Control.{wait_of, matrix_bank, owner_of, matrix_owns}
use Rattle.machine.specs.Answers.{accepted}
use Rattle.std.specs.Prelude.{Option, Some, None}
use Rattle.word_rules.specs.declared.instruction.CellWord.{CellWord}
use Rattle.word_rules.specs.declared.instruction.CellWord.TheVariants.{TrnspSrcB, MovB2A, ZeroAcc}
use Rattle.word_rules.specs.declared.instruction.SyncWord.{SyncWord}
use Rattle.word_rules.specs.declared.instruction.SyncWord.TheVariants.{AtGetM, AtRelM, StallWait, SemInit, SemPost, SemGet, SemWait}
use Rattle.word_rules.specs.declared.instruction.Instruction.{Instruction}
use Rattle.word_rules.specs.declared.instruction.Instruction.TheVariants.{Nop, Cell, Bank, Scalar, Sync, Config}
use Rattle.word_rules.specs.Table.{decode_of}
use Rattle.word_rules.specs.Waits.{condition_holds, named_holds, held_if, stall_held, meets, masked_meets, semaphore_cause, semaphore_held, held_by, wait_block, named_by, Open, Closed, mutex_open, mutex_gate, cell_gate, sync_gate, own_gate, wait_gate, gate_of}
use Rattle.word_rules.specs.Causes.{LowestCondition, semaphore_at, LowestSemaphore, HeldFor, StalledFor}

-- ---- stall conditions

and_never : (a : Bool) → (a && false) ≡ false
and_never true = refl
and_never false = refl

module _ (c : Control) (k : ℕ) where
  found_condition : (n cause : ℕ) → 5 ≤ n → n ≤ 8 → ((j : ℕ) → j < n → named_holds c k j ≡ false) → named_holds c k n ≡ true → n ≡ cause → LowestCondition c k cause
  found_condition n cause l u below at e =
      rw (← e)
      (record { from5 = l; to8 = u; named = and_left (flag n k) (condition_holds c n) at; holds = and_right (flag n k) (condition_holds c n) at; lowest = below })

  -- none below 5 holds
  none_below : (j : ℕ) → j < 5 → named_holds c k j ≡ false
  none_below j h =
      rw (ne_eqb j 5 (λ e. omega (arith, e, h)), ne_eqb j 6 (λ e. omega (arith, e, h)), ne_eqb j 7 (λ e. omega (arith, e, h)), ne_eqb j 8 (λ e. omega (arith, e, h)))
      (and_never (flag j k))

  one_more : (n : ℕ) → ((j : ℕ) → j < n → named_holds c k j ≡ false) → named_holds c k n ≡ false → (j : ℕ) → j < n + 1 → named_holds c k j ≡ false
  one_more n below at j h = go (eqb j n) refl
    where
      go : (b : Bool) → eqb j n ≡ b → named_holds c k j ≡ false
      go true e = rw (eqb-true j n e) at
      go false e = below j (omega (arith, h, eqb-false j n e))

  lowest_condition : (cause : ℕ) → stall_held c k ≡ Some cause → LowestCondition c k cause
  unfolding stall_held
  lowest_condition cause = go (named_holds c k 5) (named_holds c k 6) (named_holds c k 7) (named_holds c k 8) refl refl refl refl
    where
      go : (x5 x6 x7 x8 : Bool) → named_holds c k 5 ≡ x5 → named_holds c k 6 ≡ x6 → named_holds c k 7 ≡ x7 → named_holds c k 8 ≡ x8 →
          held_if x5 5 (held_if x6 6 (held_if x7 7 (held_if x8 8 None))) ≡ Some cause → LowestCondition c k cause
      go true x6 x7 x8 e5 e6 e7 e8 e = found_condition 5 cause (omega arith) (omega arith) none_below e5 cc
      go false true x7 x8 e5 e6 e7 e8 e = found_condition 6 cause (omega arith) (omega arith) (one_more 5 none_below e5) e6 cc
      go false false true x8 e5 e6 e7 e8 e = found_condition 7 cause (omega arith) (omega arith) (one_more 6 (one_more 5 none_below e5) e6) e7 cc
      go false false false true e5 e6 e7 e8 e =
          found_condition 8 cause (omega arith) (omega arith) (one_more 7 (one_more 6 (one_more 5 none_below e5) e6) e7) e8 cc
      go false false false false e5 e6 e7 e8 e = let z : ◌≡◌ {A = ℕ} 0 1 = cc in absurd (omega arith)

-- ---- semaphores

-- bit 0, and the bits of half a number
flag_low : (m : ℕ) → flag 0 m ≡ low_bit m
flag_low m = ap (λ (x : ℕ). eqb (x % 2) 1) (div-one m)

flag_half : (i m : ℕ) → flag i (m / 2) ≡ flag (suc i) m
flag_half i m = ap (λ (x : ℕ). eqb (x % 2) 1) (shr-shr m 1 i) ∙ ap (λ (n : ℕ). flag n m) (one-add i)

-- the lowest of these semaphores that is in the mask and meets the condition, where the first of them is semaphore n
record Found (k : ℕ) (l : List Semaphore) (m n cause : ℕ) : Type 0 where
  index : ℕ
  there : index < length l
  named : flag index m ≡ true
  holds : meets k (semaphore_at l index) ≡ true
  lowest : (j : ℕ) → j < index → (flag j m && meets k (semaphore_at l j)) ≡ false
  told : cause ≡ semaphore_cause k (semaphore_at l index) (n + index)

found_here : (k : ℕ) (s : Semaphore) (l : List Semaphore) (m n cause : ℕ) → masked_meets k s m ≡ true → cause ≡ semaphore_cause k s n → Found k (s ∷ l) m n cause
found_here k s l m n cause h e =
    let z : n + 0 ≡ n = omega arith in
    record {
      index = 0;
      there = omega arith;
      named = flag_low m ∙ and_left (low_bit m) (meets k s) h;
      holds = and_right (low_bit m) (meets k s) h;
      lowest = λ j b. absurd (omega (arith, b));
      told = e ∙ ap (λ (x : ℕ). semaphore_cause k s x) (sym z);
    }

found_later : (k : ℕ) (s : Semaphore) (l : List Semaphore) (m n cause : ℕ) → masked_meets k s m ≡ false → Found k l (m / 2) (n + 1) cause → Found k (s ∷ l) m n cause
found_later k s l m n cause h f =
    let z : n + 1 + f.index ≡ n + suc f.index = omega arith in
    record {
      index = suc f.index;
      there = omega (arith, f.there);
      named = sym (flag_half f.index m) ∙ f.named;
      holds = f.holds;
      lowest = below;
      told = f.told ∙ ap (λ (x : ℕ). semaphore_cause k (semaphore_at l f.index) x) z;
    }
  where
    below : (j : ℕ) → j < suc f.index → (flag j m && meets k (semaphore_at (s ∷ l) j)) ≡ false
    below zero b = ap (λ (x : Bool). x && meets k s) (flag_low m) ∙ h
    below (suc j) b = ap (λ (x : Bool). x && meets k (semaphore_at l j)) (sym (flag_half j m)) ∙ f.lowest j (omega (arith, b))

found_from : (k : ℕ) (s : Semaphore) (l : List Semaphore) (m n cause : ℕ) → (semaphore_held k l (m / 2) (n + 1) ≡ Some cause → Found k l (m / 2) (n + 1) cause) →
    (b : Bool) → masked_meets k s m ≡ b → held_if b (semaphore_cause k s n) (semaphore_held k l (m / 2) (n + 1)) ≡ Some cause → Found k (s ∷ l) m n cause
found_from k s l m n cause later true h e = found_here k s l m n cause h cc
found_from k s l m n cause later false h e = found_later k s l m n cause h (later e)

found : (k : ℕ) (l : List Semaphore) (m n cause : ℕ) → semaphore_held k l m n ≡ Some cause → Found k l m n cause
unfolding semaphore_held
found k [] m n cause e = let z : ◌≡◌ {A = ℕ} 0 1 = cc in absurd (omega arith)
found k (s ∷ l) m n cause e = found_from k s l m n cause (found k l (m / 2) (n + 1) cause) (masked_meets k s m) refl e

told_zero : (k : ℕ) (s : Semaphore) (n : ℕ) → (k ≡ 1) ⊎ (k ≡ 3) → s.value ≡ 0 → semaphore_cause k s n ≡ n + 16
told_zero k s n (inl e) z = rw (e, z)
told_zero k s n (inr e) z = rw (e, z)

told_full : (k : ℕ) (s : Semaphore) (n : ℕ) → (k ≡ 2) ⊎ (s.value ≡ 0 → ⊥) → semaphore_cause k s n ≡ n + 24
told_full k s n (inl e) = rw e
told_full k s n (inr e) = rw (ne_eqb s.value 0 e, and_never (eqb k 1 || eqb k 3))

lowest_semaphore : (k : ℕ) (l : List Semaphore) (m cause : ℕ) → semaphore_held k l m 0 ≡ Some cause → LowestSemaphore l m k cause
lowest_semaphore k l m cause e =
    let f = found k l m 0 cause e in
    let s = semaphore_at l f.index in
    let told : cause ≡ semaphore_cause k s f.index = f.told ∙ ap (λ (x : ℕ). semaphore_cause k s x) (zero-add f.index) in
    record {
      number = f.index;
      there = f.there;
      named = f.named;
      holds = f.holds;
      lowest = f.lowest;
      as_zero = λ x z. told ∙ told_zero k s f.index x z;
      as_full = λ x. told ∙ told_full k s f.index x;
    }

held_for : (c : Control) (w : Wait) (cause : ℕ) → held_by c w ≡ Some cause → HeldFor c w cause
held_for c Clear cause e = let z : ◌≡◌ {A = ℕ} 0 1 = cc in absurd (omega arith)
held_for c (OnStall block conditions) cause e = lowest_condition c conditions cause e
held_for c (OnSemaphore block mask condition) cause e = lowest_semaphore condition c.semaphores mask cause e

-- ---- a closed gate

never_open : {A : Type 0} {n cause : ℕ} → Open ≡ Closed n cause → A
never_open e = let z : ◌≡◌ {A = ℕ} 0 1 = cc in absurd (omega arith)

module _ (c : Control) (t w n cause : ℕ) where
  by_mutex : (m : ℕ) → decode_of w ≡ accepted (Sync (AtGetM m)) → mutex_gate (get_or c.mutexes m 0) t ≡ Closed n cause → StalledFor c t w n cause
  by_mutex m d = go (mutex_open (get_or c.mutexes m 0) t) refl
    where
      go : (b : Bool) → mutex_open (get_or c.mutexes m 0) t ≡ b → cond b Open (Closed 102 (get_or c.mutexes m 0 - 1)) ≡ Closed n cause → StalledFor c t w n cause
      go true h e = never_open e
      go false h e =
          let x = get_or c.mutexes m 0 in
          let two = neither (eqb x 0) (eqb x (t + 1)) h in
          let held = eqb-false x 0 two.0 in
          let other = eqb-false x (t + 1) two.1 in
          let number : n ≡ 102 = cc in
          let is : cause ≡ x - 1 = cc in
          inr (inl (number, record { mutex = m; word = d; holder = omega (arith, held, is); another = λ y. other (omega (arith, held, is, y)) }))

  by_bank : cond (matrix_owns c 1) Open (Closed 103 (matrix_bank c 1)) ≡ Closed n cause → StalledFor c t w n cause
  by_bank = go (matrix_owns c 1) refl
    where
      go : (b : Bool) → matrix_owns c 1 ≡ b → cond b Open (Closed 103 (matrix_bank c 1)) ≡ Closed n cause → StalledFor c t w n cause
      go true h e = never_open e
      go false h e =
          let number : n ≡ 103 = cc in
          let is : cause ≡ matrix_bank c 1 = cc in
          inr (inr (number, record { bank = is; owner = rw is (eqb-false (owner_of c 1 (matrix_bank c 1)) 1 h) }))

  by_cell : (x : CellWord) → cell_gate (matrix_owns c 1) (matrix_bank c 1) x ≡ Closed n cause → StalledFor c t w n cause
  by_cell TrnspSrcB e = by_bank e
  by_cell (MovB2A rowA four rowB) e = by_bank e
  by_cell (ZeroAcc mode wide place) e = never_open e

  by_sync : (x : SyncWord) → decode_of w ≡ accepted (Sync x) → sync_gate c t x ≡ Closed n cause → StalledFor c t w n cause
  by_sync (AtGetM m) d e = by_mutex m d e
  by_sync (AtRelM m) d e = never_open e
  by_sync (StallWait block conditions) d e = never_open e
  by_sync (SemInit maximum value mask) d e = never_open e
  by_sync (SemPost mask) d e = never_open e
  by_sync (SemGet mask) d e = never_open e
  by_sync (SemWait block mask condition) d e = never_open e

  by_own : (i : Instruction) → decode_of w ≡ accepted i → own_gate c t i ≡ Closed n cause → StalledFor c t w n cause
  by_own Nop d e = never_open e
  by_own (Cell x) d e = by_cell x e
  by_own (Bank x) d e = never_open e
  by_own (Scalar x) d e = never_open e
  by_own (Sync x) d e = by_sync x d e
  by_own (Config x) d e = never_open e

  pub by_gate_lem : (i : Instruction) → decode_of w ≡ accepted i → gate_of c t i ≡ Closed n cause → StalledFor c t w n cause
  unfolding gate_of
  by_gate_lem i d = go (held_by c (wait_of c t)) (named_by (wait_block (wait_of c t)) i) refl
    where
      go : (h : Option ℕ) (b : Bool) → held_by c (wait_of c t) ≡ h → wait_gate h b (own_gate c t i) ≡ Closed n cause → StalledFor c t w n cause
      go None b eh e = by_own i d e
      go (Some x) true eh e =
          let number : n ≡ 101 = cc in
          let is : x ≡ cause = cc in
          inl (number, held_for c (wait_of c t) cause (eh ∙ ap Some is))
      go (Some x) false eh e = by_own i d e
