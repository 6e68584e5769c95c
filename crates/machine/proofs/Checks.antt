-- Laws of answers: what a refusal and what an acceptance say of the tests.
use Prim.Native.Nat.{ℕ}
use mathlib.Core.Bool.{Bool, true, false}
use mathlib.Core.List.{List}
use mathlib.Core.Path.{◌≡◌, refl, sym, ap, ◌∙◌}
use native.Mathlib.Omega.{arith}
use Rattle.machine.specs.Answers.{Told, accepted, refused, provided, call, checked}

-- what is accepted is not refused
pub refused_accepted : {A B : Type 0} {a : A} {n : ℕ} {vs : List ℕ} → accepted a ≡ refused n vs → B
refused_accepted e = let z : ◌≡◌ {A = ℕ} 0 1 = cc in absurd (omega arith)

-- how a test came out, by the code's branch on its negation
pub held : {r b : Bool} → r ≡ b → r ≡ true → b ≡ true
held e h = sym e ∙ h

pub failed : {r b : Bool} → r ≡ b → r ≡ false → b ≡ false
failed e h = sym e ∙ h

-- a first answer, and the rest where it accepts
abbrev pub before : {A B : Type 0} → Told A → Told B → Told B
before (accepted a) rest = rest
before (refused n vs) rest = refused n vs

-- a check may be made first, with anything in the place of what comes after it
pub provided_before : {A B : Type 0} (b : Bool) (n : ℕ) (x : Told A) (y : Told B) → before (provided b n x) y ≡ provided b n (before x y)
provided_before true n x y = refl
provided_before false n x y = refl

-- a test that an accepted call has passed, and what stands behind it
pub provided_test : {A : Type 0} (b : Bool) (n : ℕ) (x : Told A) (a : A) → provided b n x ≡ accepted a → b ≡ true
provided_test true n x a e = refl
provided_test false n x a e = refused_accepted (sym e)

pub provided_rest : {A : Type 0} (b : Bool) (n : ℕ) (x : Told A) (a : A) → provided b n x ≡ accepted a → x ≡ accepted a
provided_rest true n x a e = e
provided_rest false n x a e = refused_accepted (sym e)

-- where the first check refuses, so does the whole; where it accepts, the rest decides
module _ {A B : Type 0} {first : Told A} (rest : Told B) {whole : Told B} (e : whole ≡ before first rest) where
  pub whole_denied : {n : ℕ} {vs : List ℕ} → refused n vs ≡ first → refused n vs ≡ whole
  whole_denied h = rw (e, ← h)

  pub whole_found : {a : A} → accepted a ≡ first → rest ≡ whole
  whole_found h = rw (e, ← h)

-- a refused call writes nothing
pub checked_denied : {S : Type 0} {whole : Told (Unit {0})} (s t : S) {n : ℕ} {vs : List ℕ} → refused n vs ≡ whole → call (refused n vs) s ≡ checked whole s t
checked_denied s t h = rw (← h)

pub checked_found : {S : Type 0} {whole : Told (Unit {0})} (s t : S) → accepted tt ≡ whole → call (accepted tt) t ≡ checked whole s t
checked_found s t h = rw (← h)

pub checked_answer : {S : Type 0} (whole : Told (Unit {0})) (s t : S) → (checked whole s t).answer ≡ whole
checked_answer (accepted u) s t = refl
checked_answer (refused n vs) s t = refl

-- what holds of the state before a call, and of the state that an accepted one makes, holds of the state after it
pub checked_after : {S : Type 0} (P : S → Type 0) (whole : Told (Unit {0})) (s t : S) → P s → (accepted tt ≡ whole → P t) → P (checked whole s t).after
checked_after P (accepted u) s t p q = q refl
checked_after P (refused n vs) s t p q = p

-- what stands behind a test matters only where the test holds
pub provided_alike : {A : Type 0} (b : Bool) (n : ℕ) (x y : Told A) → (b ≡ true → x ≡ y) → provided b n x ≡ provided b n y
provided_alike true n x y h = h refl
provided_alike false n x y h = refl

pub checked_alike : {S : Type 0} (whole : Told (Unit {0})) (s t u : S) → (accepted tt ≡ whole → t ≡ u) → checked whole s t ≡ checked whole s u
checked_alike (accepted x) s t u h = ap (call (accepted x)) (h refl)
checked_alike (refused n vs) s t u h = refl
