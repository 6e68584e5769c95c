-- A face: 16 rows of 16 cells, and what transposing one does to the list that it lies in.
use Rattle.std.specs.Prelude.{ℕ, ◌+◌, ◌*◌, ◌<◌, ◌≤◌, ◌≡◌, List, [], ◌∷◌, get_or}
use Rattle.bits.specs.Values.{values}
use Rattle.bits.specs.Copies.{copied}

-- cell (r, c) of a face
abbrev pub cell_of : List (List ℕ) → ℕ → ℕ → ℕ
cell_of face r c = get_or (get_or face r []) c 0

-- the 16 cells from place `at` on
abbrev pub row_at : ℕ → List ℕ → List ℕ
row_at at s = values 0 16 (λ c. get_or s (at + c) 0)

-- the 16 rows from place `at` on
abbrev pub face_at : ℕ → List ℕ → List (List ℕ)
face_at at s = values 0 16 (λ r. row_at (at + r * 16) s)

-- column c of a face
abbrev pub column_of : List (List ℕ) → ℕ → List ℕ
column_of face c = values 0 16 (λ r. cell_of face r c)

-- new row r is old column r, so new cell (r, c) is old cell (c, r)
abbrev pub transposed : List (List ℕ) → List (List ℕ)
transposed face = values 0 16 (λ r. column_of face r)

-- s with the rows written from place `at` on, one after the other
unfoldable pub with_rows : ℕ → List (List ℕ) → List ℕ → List ℕ
with_rows at [] s = s
with_rows at (row ∷ rows) s = with_rows (at + 16) rows (copied 16 0 at row s)

-- s with the face at place `at` transposed
unfoldable pub face_transposed : ℕ → List ℕ → List ℕ
face_transposed at s = with_rows at (transposed (face_at at s)) s

-- where each cell is after it
pub record CellsTransposed (at : ℕ) (s after : List ℕ) : Type 0 where
  -- new cell (r, c) of the face is old cell (c, r)
  pub inside : (r c : ℕ) → r < 16 → c < 16 → get_or after (at + r * 16 + c) 0 ≡ get_or s (at + c * 16 + r) 0
  -- a cell outside the face is as it was
  pub before : (i : ℕ) → i < at → get_or after i 0 ≡ get_or s i 0
  pub past : (i : ℕ) → at + 256 ≤ i → get_or after i 0 ≡ get_or s i 0
