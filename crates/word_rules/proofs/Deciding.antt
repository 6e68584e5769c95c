-- The gate of a word, by the block bits that its thread's wait stalls now.
use Prim.Native.Nat.{ℕ, ◌-◌}
use mathlib.Core.Path.{◌≡◌, refl, sym, ap, subst, ◌∙◌}
use mathlib.Core.Bool.{Bool, true, false, cond, ◌&&◌}
use lib.Dec.{eqb}
use lib.ListN.{get_or}
use Rattle.bits.proofs.Choices.{never}
use Rattle.machine.specs.declared.control.Wait.{Wait}
use Rattle.machine.specs.declared.control.Thread.{Thread}
use Rattle.machine.specs.declared.control.Control.{Control}
use Rattle.machine.specs.Control.{thread_at, wait_of, matrix_bank, matrix_owns}
use Rattle.word_rules.specs.declared.instruction.CellWord.TheVariants.{TrnspSrcB, MovB2A, ZeroAcc}
use Rattle.word_rules.specs.declared.instruction.SyncWord.TheVariants.{AtGetM, AtRelM, StallWait, SemInit, SemPost, SemGet, SemWait}
use Rattle.word_rules.specs.declared.instruction.Instruction.{Instruction}
use Rattle.word_rules.specs.declared.instruction.Instruction.TheVariants.{Nop, Cell, Bank, Scalar, Sync, Config}
use Rattle.std.specs.Prelude.{Option, Some, None}
use Rattle.word_rules.specs.Waits.{held_by, is_held, named_by, wait_block, Gate, Open, Closed, mutex_open, own_gate, wait_gate}
use Rattle.word_rules.specs.Offered.{wait_first, lifted_now, blocks_now, cause_in}

-- where the wait is lifted it names no word
none_named : (i : Instruction) → named_by 0 i ≡ false
none_named Nop = refl
none_named (Scalar z) = refl
none_named (Sync z) = refl
none_named (Config z) = refl
none_named (Cell z) = refl
none_named (Bank z) = refl

-- a gate whose 101 is told with this cause
abbrev pub told_gate : ℕ → Gate → Gate
told_gate cause Open = Open
told_gate cause (Closed n k) = Closed n (cond (eqb n 101) cause k)

-- what a word waits for itself is told at once
closed_told : (cause n k : ℕ) → eqb n 101 ≡ false → (b : Bool) → told_gate cause (cond b Open (Closed n k)) ≡ cond b Open (Closed n k)
closed_told cause n k e true = refl
closed_told cause n k e false = rw e

own_told : (cause : ℕ) (c : Control) (t : ℕ) (i : Instruction) → told_gate cause (own_gate c t i) ≡ own_gate c t i
own_told cause c t Nop = refl
own_told cause c t (Cell TrnspSrcB) = closed_told cause 103 (matrix_bank c 1) refl (matrix_owns c 1)
own_told cause c t (Cell (MovB2A a b d)) = closed_told cause 103 (matrix_bank c 1) refl (matrix_owns c 1)
own_told cause c t (Cell (ZeroAcc a b d)) = refl
own_told cause c t (Bank x) = refl
own_told cause c t (Scalar x) = refl
own_told cause c t (Sync (AtGetM m)) = closed_told cause 102 (get_or c.mutexes m 0 - 1) refl (mutex_open (get_or c.mutexes m 0) t)
own_told cause c t (Sync (AtRelM m)) = refl
own_told cause c t (Sync (StallWait a b)) = refl
own_told cause c t (Sync (SemInit a b d)) = refl
own_told cause c t (Sync (SemPost m)) = refl
own_told cause c t (Sync (SemGet m)) = refl
own_told cause c t (Sync (SemWait a b d)) = refl
own_told cause c t (Config x) = refl

-- the gate that the wait makes of a word's own, by the block bits that it stalls now and what it is held by
pub gate_now : (c : Control) (t : ℕ) (w : Wait) (i : Instruction) →
    wait_gate (held_by c w) (named_by (wait_block w) i) (own_gate c t i) ≡ told_gate (cause_in (held_by c w)) (wait_first (named_by (blocks_now c w) i) (own_gate c t i))
gate_now c t w i = go (held_by c w)
  where
    held : (cause : ℕ) (b : Bool) → cond b (Closed 101 cause) (own_gate c t i) ≡ told_gate cause (wait_first b (own_gate c t i))
    held cause true = refl
    held cause false = sym (own_told cause c t i)

    go : (h : Option ℕ) → wait_gate h (named_by (wait_block w) i) (own_gate c t i)
        ≡ told_gate (cause_in h) (wait_first (named_by (cond (is_held h) (wait_block w) 0) i) (own_gate c t i))
    go None = rw (none_named i) (sym (own_told 0 c t i))
    go (Some cause) = held cause (named_by (wait_block w) i)

-- a wait that doesn't name the word or is lifted leaves its own gate
pub unheld : (h : Option ℕ) (named : Bool) (g : Gate) → (named && is_held h) ≡ false → wait_gate h named g ≡ g
unheld None named g e = refl
unheld (Some cause) true g e = never e
unheld (Some cause) false g e = refl

-- what a thread's wait makes of its words, where the thread and its wait go by names
pub judged_wait : (c : Control) (t : ℕ) (x : Thread) (w : Wait) (blocks cause : ℕ) (drops : Bool) → x ≡ thread_at c t → x.wait ≡ w →
    (blocks ≡ blocks_now c w) × (cause ≡ cause_in (held_by c w)) × (drops ≡ lifted_now c w) →
    (blocks ≡ blocks_now c (wait_of c t)) × (cause ≡ cause_in (held_by c (wait_of c t))) × (drops ≡ lifted_now c (wait_of c t))
judged_wait c t x w blocks cause drops e h p =
    subst (λ (y : Wait). (blocks ≡ blocks_now c y) × (cause ≡ cause_in (held_by c y)) × (drops ≡ lifted_now c y)) (sym h ∙ ap (λ (y : Thread). y.wait) e) p
