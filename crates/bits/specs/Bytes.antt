-- Little-endian numbers, over the width.
use Rattle.std.specs.Prelude.{ℕ, zero, suc, ◌+◌, ◌*◌, ◌/◌, ◌%◌, ◌<◌, List, [], ◌∷◌, get_or, drop}

-- n as w bytes, the lowest first
unfoldable pub enc : ℕ → ℕ → List ℕ
enc zero n = []
enc (suc w) n = n % 256 ∷ enc w (n / 256)

-- the number that the first w bytes are
unfoldable pub le : ℕ → List ℕ → ℕ
le zero bs = 0
le (suc w) bs = get_or bs 0 0 + 256 * le w (drop 1 bs)

-- every element is a byte
abbrev pub Bytes : List ℕ → Type 0
Bytes bs = (i : ℕ) → get_or bs i 0 < 256
