use Rattle.std.proofs.Common.{ℕ, ◌≡◌, ◌+◌, ◌/◌, ◌<◌, Bool, true, false, cond, ◌&&◌, ◌||◌, List, length, drop, get_or, eqb, Option, Some, None, refl, sym, ◌∙◌, arith, add-one}
use Rattle.machine.specs.declared.control.Semaphore.{Semaphore}
use Rattle.machine.proofs.Semaphores.{zero_semaphore}
use Rattle.word_rules.specs.Waits.{held_if, masked_meets, semaphore_cause, semaphore_held}
use Rattle.word_rules.proofs.Masks.{held_end}
use lib.Seq.{drop-cons}
use Rattle.word_waits.proofs.semaphore_held.Goals as goal

-- one turn of the search
step : (k : ℕ) (l : List Semaphore) (i m : ℕ) → i < length l →
    semaphore_held k (drop i l) m i
    ≡ held_if (masked_meets k (get_or l i zero_semaphore) m) (semaphore_cause k (get_or l i zero_semaphore) i) (semaphore_held k (drop (i + 1) l) (m / 2) (i + 1))
unfolding semaphore_held
step k l i m h = rw (drop-cons l i zero_semaphore h, add-one) refl

-- it ends at a semaphore of the mask that meets the condition
found : (k : ℕ) (l : List Semaphore) (i m a : ℕ) → i < length l →
    Some a ≡ held_if (masked_meets k (get_or l i zero_semaphore) m) (semaphore_cause k (get_or l i zero_semaphore) 0) None →
    semaphore_held k (drop i l) m i ≡ Some (i + a)
found k l i m a h e =
    let s = get_or l i zero_semaphore in
    step k l i m h ∙ go (masked_meets k s m) ((eqb k 1 || eqb k 3) && eqb s.value 0) (semaphore_held k (drop (i + 1) l) (m / 2) (i + 1)) e
  where
    go : (b z : Bool) (rest : Option ℕ) → Some a ≡ held_if b (cond z (0 + 16) (0 + 24)) None → held_if b (cond z (i + 16) (i + 24)) rest ≡ Some (i + a)
    go true true rest d = cc
    go true false rest d = cc
    go false z rest d = absurd cc

-- it passes any other
passed : (k : ℕ) (l : List Semaphore) (i m : ℕ) → i < length l →
    None ≡ held_if (masked_meets k (get_or l i zero_semaphore) m) (semaphore_cause k (get_or l i zero_semaphore) 0) None →
    semaphore_held k (drop i l) m i ≡ semaphore_held k (drop (i + 1) l) (m / 2) (i + 1)
passed k l i m h e =
    let s = get_or l i zero_semaphore in
    step k l i m h ∙ go (masked_meets k s m) (semaphore_cause k s 0) (semaphore_cause k s i) (semaphore_held k (drop (i + 1) l) (m / 2) (i + 1)) e
  where
    go : (b : Bool) (a n : ℕ) (rest : Option ℕ) → None ≡ held_if b a None → held_if b n rest ≡ rest
    go true a n rest d = absurd cc
    go false a n rest d = refl

pub returns-in-Some : goal.returns-in-Some
returns-in-Some c =
    let a = c.args in
    sym (c.loop-i.invariant ∙ found a.condition a.all.now c.loop-i.i c.loop-i.m c.in-Some.held_as (omega arith) (sym c.in-Some.is ∙ c.masked_as.ensures))

pub loop-i-preserved : goal.loop-i-preserved
loop-i-preserved c =
    let a = c.args in
    c.loop-i.invariant ∙ passed a.condition a.all.now c.loop-i.i c.loop-i.m (omega arith) (sym c.in_default.is ∙ c.masked_as.ensures)

pub returns : goal.returns
returns c =
    let a = c.args in
    sym (c.loop-i.invariant ∙ held_end a.condition a.all.now c.loop-i.i c.loop-i.m (omega arith) (omega arith))
