-- A list written over from a place on.
use Rattle.std.specs.Prelude.{ℕ, ◌+◌, ◌≡◌, List, ◌++◌, length, take, drop}

-- l with vs from index at on, as long as it was where vs fits
unfoldable pub over : {A : Type 0} → List A → ℕ → List A → List A
over l at vs = take at l ++ (vs ++ drop (at + length vs) l)

-- what a function does that writes vs into l at `at`: m is the list after it, and next the place past what it wrote
pub record Wrote {A : Type 0} (l : List A) (at : ℕ) (vs m : List A) (next : ℕ) : Type 0 where
  pub placed : next ≡ at + length vs
  pub list : m ≡ over l at vs
