-- What a call answers, in document 01's numbers, and what it leaves.
use Rattle.std.specs.Prelude.{ℕ, Bool, cond, List, [], Result, Ok, Err}
use Rattle.machine.specs.declared.refusal.Refusal.{Refusal}
use Rattle.machine.specs.Numbers.{number_of, values_of}

-- an answer as document 01 has it: what is told where the call is accepted, or the number that comes back with its values
pub data Told (A : Type 0) : Type 0 where
  accepted : A → Told A
  refused : ℕ → List ℕ → Told A

-- a refusal of the code's
abbrev pub refusal : {A : Type 0} → Refusal → Told A
refusal r = refused (number_of r) (values_of r)

-- what a call of the code's answers
abbrev pub told : {A : Type 0} → Result A Refusal → Told A
told (Ok x) = accepted x
told (Err r) = refusal r

-- refused by the number unless the test holds; the tests stand in the order of the numbers
abbrev pub provided : {A : Type 0} → Bool → ℕ → Told A → Told A
provided test number rest = cond test rest (refused number [])

-- the answer, and what was lent to be written as the call leaves it
pub record Call (S : Type 0) : Type 0 where
  pub answer : Told (Unit {0})
  pub after : S

abbrev pub call : {S : Type 0} → Told (Unit {0}) → S → Call S
call a s = record { answer = a; after = s }

-- a refused call writes nothing
abbrev pub checked : {S : Type 0} → Told (Unit {0}) → S → S → Call S
checked (accepted x) before after = call (accepted x) after
checked (refused number values) before after = call (refused number values) before
