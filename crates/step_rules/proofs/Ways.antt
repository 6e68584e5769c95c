-- The ways that a call of one word can go, as equations of the definitions, for the code that takes them.
use Prim.Native.Nat.{ℕ, ◌<◌}
use mathlib.Core.Path.{◌≡◌, refl, sym, ap, ◌∙◌}
use mathlib.Core.Bool.{Bool, true, false, cond}
use mathlib.Core.List.{List}
use native.Mathlib.Omega.{arith}
use lib.Dec.{leb, ltb}
use borrow.Author.Tests.{leb-true}
use Rattle.bits.proofs.Choices.{and_left}
use Rattle.machine.proofs.Checks.{provided_test, provided_rest}
use Rattle.machine.specs.declared.refusal.Refusal.{Refusal}
use Rattle.machine.specs.declared.control.Control.{Control}
use Rattle.machine.specs.Machine.{Machine, machine}
use Rattle.machine.proofs.StoreFacts.{SizedFacts, sized_facts}
use Rattle.machine.specs.Formed.{sized, formed, control_formed}
use Rattle.std.specs.Prelude.{Option, Some, None, Result, Ok, Err}
use Rattle.machine.specs.Sizes.{thread_count}
use Rattle.machine.specs.Answers.{Told, accepted, refusal, told}
use Rattle.word_rules.specs.declared.instruction.Instruction.{Instruction}
use Rattle.word_rules.specs.Table.{decode_of}
use Rattle.step_rules.specs.Step.{Step, stepped, by_decoded, offer_of, check_of, by_check, step_of}

-- a word offered, by what it says
pub offered_as : (m : Machine) (t w : ℕ) (x : Told Instruction) → decode_of w ≡ x → by_decoded m t x ≡ offer_of m t w
unfolding offer_of
offered_as m t w x e = ap (λ (y : Told Instruction). by_decoded m t y) (sym e)

module _ (m : Machine) (t : ℕ) (k : Result (Unit {0}) Refusal) (e : told k ≡ check_of m t) where
  by_check_lem : (w : ℕ) → step_of m t w ≡ by_check m t w (told k)
  unfolding step_of
  by_check_lem w = ap (λ (x : Told (Unit {0})). by_check m t w x) (sym e)

  pub call_refused_lem : (w : ℕ) (r : Refusal) → k ≡ Err r → stepped (refusal r) m ≡ step_of m t w
  call_refused_lem w r h = sym (by_check_lem w ∙ ap (λ (x : Result (Unit {0}) Refusal). by_check m t w (told x)) h)

  pub call_offered : (w : ℕ) (s : Step) (u : Unit {0}) → k ≡ Ok u → s ≡ offer_of m t w → s ≡ step_of m t w
  call_offered w s u h p = p ∙ sym (by_check_lem w ∙ ap (λ (x : Result (Unit {0}) Refusal). by_check m t w (told x)) h)

-- what a call that is not refused has shown
pub record Shown (m : Machine) (t : ℕ) : Type 0 where
  pub sizes : sized m ≡ true
  pub ranges : formed m ≡ true
  pub control : control_formed m.control ≡ true
  pub thread : t < 3

pub accepted_shows : (m : Machine) (t : ℕ) (x : Unit {0}) → check_of m t ≡ accepted x → Shown m t
unfolding check_of
accepted_shows m t u e =
    let r = provided_rest (sized m) 4 _ u e in
    let l = provided_rest (formed m) 10 _ u r in
    let ranges = provided_test (formed m) 10 _ u r in
    record {
      sizes = provided_test (sized m) 4 _ u e;
      ranges = ranges;
      control = and_left (control_formed m.control) _ ranges;
      thread = omega (arith, leb-true t 2 (provided_test (leb t 2) 1 _ u l));
    }

-- what the code's answer shows where it is no refusal
module _ (m : Machine) (t : ℕ) (k : Result (Unit {0}) Refusal) (e : told k ≡ check_of m t) (h : (r : Refusal) → k ≡ Err r → ⊥) where
  fine : (x : Result (Unit {0}) Refusal) → k ≡ x → k ≡ Ok tt
  fine (Ok u) f = f
  fine (Err r) f = absurd (h r f)

  pub call_shows : Shown m t
  call_shows = accepted_shows m t tt (sym e ∙ ap told (fine k refl))

  pub call_sizes : SizedFacts m.settings m.kept
  call_sizes = sized_facts m call_shows.sizes

  pub call_taken : (w : ℕ) → offer_of m t w ≡ step_of m t w
  call_taken w = call_offered m t k e w (offer_of m t w) tt (fine k refl) refl

-- a machine of the same parts
pub same_machine : {c : Control} {s s' g g' k k' d a a' b b' : List ℕ} {v v' : List Bool} → s ≡ s' → g ≡ g' → k ≡ k' → v ≡ v' → a ≡ a' → b ≡ b' →
    machine c s g k d v a b ≡ machine c s' g' k' d v' a' b'
same_machine es eg ek ev ea eb = rw (es, eg, ek, ev, ea, eb)

-- the thread that a number names
pub thread_named : (n t : ℕ) (o : Option ℕ) → o ≡ cond (ltb n thread_count) (Some n) None → o ≡ Some t → t ≡ n
thread_named n t o e h = go (ltb n thread_count) (sym e ∙ h)
  where
    go : (b : Bool) → cond b (Some n) None ≡ Some t → t ≡ n
    go true k = cc
    go false k = let z : ◌≡◌ {A = ℕ} 0 1 = cc in absurd (omega arith)
