-- Words copied from one list into another.
use Rattle.std.specs.Prelude.{ℕ, zero, suc, ◌+◌, List, set, get_or}

-- l with the n words of s from place `from` on, stored from place `to` on
unfoldable pub copied : ℕ → ℕ → ℕ → List ℕ → List ℕ → List ℕ
copied zero from to s l = l
copied (suc n) from to s l = copied n (from + 1) (to + 1) s (set l to (get_or s from 0))
