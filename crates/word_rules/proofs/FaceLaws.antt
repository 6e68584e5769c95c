-- Laws of faces.
use Prim.Native.Nat.{ℕ, zero, suc, ◌+◌, ◌*◌, ◌≤◌, ◌<◌}
use mathlib.Core.Path.{◌≡◌, refl, ◌∙◌}
use mathlib.Core.Bool.{true}
use mathlib.Core.List.{List, [], ◌∷◌}
use native.Mathlib.Nat.{le_refl, add-zero, zero-add}
use native.Mathlib.Numerals.{add-one}
use native.Mathlib.Omega.{arith}
use lib.ListN.{length, get_or, drop}
use lib.Seq.{drop-cons, drop-length}
use Rattle.bits.specs.Ranges.{all_at_most}
use Rattle.bits.proofs.Ranges.{at_most_all, at_most_at, at_most_none}
use Rattle.machine.specs.Places.{row_place}
use Rattle.bits.specs.Copies.{copied}
use Rattle.bits.specs.Values.{values}
use Rattle.word_rules.specs.Face.{cell_of, row_at, face_at, column_of, transposed, with_rows, face_transposed, CellsTransposed}
use Rattle.word_rules.specs.CellWords.{after_trnsp_src_b}
use Rattle.bits.proofs.Copies.{copied_long, copied_before, copied_past, copied_inside, copied_at_most}
use Rattle.bits.proofs.Values.{values_from_0, values_long, values_all}

-- one turn of a loop that writes rows, and its end
pub rows_step : (at r : ℕ) (face : List (List ℕ)) (s : List ℕ) → r < length face →
    with_rows (at + r * 16) (drop r face) s ≡ with_rows (at + (r + 1) * 16) (drop (r + 1) face) (copied 16 0 (at + r * 16) (get_or face r []) s)
unfolding with_rows
rows_step at r face s h =
    let e : at + r * 16 + 16 ≡ at + (r + 1) * 16 = omega arith in
    rw (← e, add-one, drop-cons face r [])

pub rows_end : (at r : ℕ) (face : List (List ℕ)) (s : List ℕ) → r ≡ length face → with_rows (at + r * 16) (drop r face) s ≡ s
unfolding with_rows
rows_end at r face s h = rw (h, drop-length)

pub rows_long : (at : ℕ) (rows : List (List ℕ)) (s : List ℕ) → length (with_rows at rows s) ≡ length s
unfolding with_rows
rows_long at [] s = refl
rows_long at (row ∷ rows) s = rows_long (at + 16) rows (copied 16 0 at row s) ∙ copied_long 16 0 at row s

-- a place outside the rows is as it was
pub rows_before : (at : ℕ) (rows : List (List ℕ)) (s : List ℕ) (i : ℕ) → i < at → get_or (with_rows at rows s) i 0 ≡ get_or s i 0
unfolding with_rows
rows_before at [] s i h = refl
rows_before at (row ∷ rows) s i h =
    rows_before (at + 16) rows (copied 16 0 at row s) i (omega arith) ∙ copied_before 16 0 at row s i h

pub rows_past : (at : ℕ) (rows : List (List ℕ)) (s : List ℕ) (i : ℕ) → at + length rows * 16 ≤ i → get_or (with_rows at rows s) i 0 ≡ get_or s i 0
unfolding with_rows
rows_past at [] s i h = refl
rows_past at (row ∷ rows) s i h =
    rows_past (at + 16) rows (copied 16 0 at row s) i (omega arith) ∙ copied_past 16 0 at row s i (omega arith)

-- cell (r, c) of the rows is where row r begins, and c on
pub rows_inside : (at : ℕ) (rows : List (List ℕ)) (s : List ℕ) (r c : ℕ) → at + length rows * 16 ≤ length s → r < length rows → c < 16 →
    get_or (with_rows at rows s) (at + r * 16 + c) 0 ≡ cell_of rows r c
unfolding with_rows
rows_inside at [] s r c h k m = absurd (omega arith)
rows_inside at (row ∷ rows) s zero c h k m =
    rw add-zero (rows_before (at + 16) rows (copied 16 0 at row s) (at + c) (omega arith) ∙ rw zero-add at (copied_inside 16 0 at row s c (omega arith) m))
rows_inside at (row ∷ rows) s (suc r) c h k m =
    let e : at + suc r * 16 + c ≡ at + 16 + r * 16 + c = omega arith in
    rw e (rows_inside (at + 16) rows (copied 16 0 at row s) r c (rw copied_long (omega arith)) (omega arith) m)

pub rows_at_most : (most at : ℕ) (rows : List (List ℕ)) (s : List ℕ) → ((r : ℕ) → all_at_most most (get_or rows r []) ≡ true) → all_at_most most s ≡ true → all_at_most most (with_rows at rows s) ≡ true
unfolding with_rows
rows_at_most most at [] s p q = q
rows_at_most most at (row ∷ rows) s p q =
    rows_at_most most (at + 16) rows (copied 16 0 at row s) (λ r. p (suc r)) (copied_at_most most 16 0 at row s (p 0) q)

pub face_long : (at : ℕ) (s : List ℕ) → length (face_transposed at s) ≡ length s
unfolding face_transposed
face_long at s = rows_long at (transposed (face_at at s)) s

-- a cell of a face that is read, and of a face that is transposed
face_cell : (at : ℕ) (s : List ℕ) (r c : ℕ) → r < 16 → c < 16 → cell_of (face_at at s) r c ≡ get_or s (at + r * 16 + c) 0
face_cell at s r c h k =
    rw (values_from_0 (λ r. row_at (at + r * 16) s) [] 16 r h) (values_from_0 (λ c. get_or s (at + r * 16 + c) 0) 0 16 c k)

transposed_cell : (face : List (List ℕ)) (r c : ℕ) → r < 16 → c < 16 → cell_of (transposed face) r c ≡ cell_of face c r
transposed_cell face r c h k =
    rw (values_from_0 (λ r. column_of face r) [] 16 r h) (values_from_0 (λ c. cell_of face c r) 0 16 c k)

-- every cell is at its stated place
pub cells_transposed : (at : ℕ) (s : List ℕ) → at + 256 ≤ length s → CellsTransposed at s (face_transposed at s)
unfolding face_transposed
cells_transposed at s h =
    let face = face_at at s in
    let rows = transposed face in
    let n : length rows ≡ 16 = values_long (λ r. column_of face r) 0 16 in
    record {
      inside = λ r c i j. rows_inside at rows s r c (omega arith) (omega arith) j ∙ transposed_cell face r c i j ∙ face_cell at s c r j i;
      before = λ i j. rows_before at rows s i j;
      past = λ i j. rows_past at rows s i (omega arith);
    }

-- a face of numbers in range has each row in range
grid_at_most : (most : ℕ) (f : ℕ → ℕ → ℕ) → ((r c : ℕ) → f r c ≤ most) → (r : ℕ) → all_at_most most (get_or (values 0 16 (λ i. values 0 16 (f i))) r []) ≡ true
grid_at_most most f h =
    values_all (λ (row : List ℕ). all_at_most most row ≡ true) (λ i. values 0 16 (f i)) [] 0 16 (at_most_none most [] (le_refl 0))
    (λ i. at_most_all most (values 0 16 (f i)) (values_all (λ (x : ℕ). x ≤ most) (f i) 0 0 16 (omega arith) (h i)))

pub face_at_most : (most at : ℕ) (s : List ℕ) → all_at_most most s ≡ true → all_at_most most (face_transposed at s) ≡ true
unfolding face_transposed
face_at_most most at s h =
    let read = grid_at_most most (λ r c. get_or s (at + r * 16 + c) 0) (λ r c. at_most_at most s (at + r * 16 + c) h) in
    rows_at_most most at (transposed (face_at at s)) s
    (grid_at_most most (λ r c. cell_of (face_at at s) c r) (λ r c. at_most_at most (get_or (face_at at s) c []) r (read c))) h

-- TRNSPSRCB: new cell (r, c) of rows 16–31 of SrcB's matrix bank is old cell (c, r), and every other cell is as it was
pub trnsp_cells : (bankB : ℕ) (src_b : List ℕ) → bankB < 2 → length src_b ≡ 2048 → CellsTransposed (row_place bankB 16) src_b (after_trnsp_src_b bankB src_b)
trnsp_cells bankB src_b h e = cells_transposed (row_place bankB 16) src_b (omega arith)
