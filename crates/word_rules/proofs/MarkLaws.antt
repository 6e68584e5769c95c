-- Laws of the valid marks that ZEROACC clears.
use Prim.Native.Nat.{ℕ, zero, suc, ◌+◌, ◌-◌, ◌*◌, ◌/◌, ◌≤◌, ◌<◌}
use mathlib.Core.Path.{◌≡◌, refl, ◌∙◌}
use mathlib.Core.Bool.{Bool, true, false, cond}
use mathlib.Core.List.{List, [], ◌∷◌}
use mathlib.Core.Logic.{inl, inr, ⊎_elim}
use native.Mathlib.Nat.{le_refl, mul-le-mul}
use native.Mathlib.Decide.{dec_lt}
use native.Mathlib.Omega.{arith}
use lib.Dec.{eqb, lit≤}
use lib.ListN.{length, set, get_or, length-set}
use lib.Seq.{get_or-set_other}
use borrow.Author.Tests.{eqb-true}
use Rattle.dest.specs.declared.flags.Flags.{Flags}
use Rattle.dest.specs.Rows.{view16, view32}
use Rattle.dest.specs.Maps.{storage16, high32, low32}
use Rattle.word_rules.specs.Marks.{view_rows, clear_row, clear_rows, LiesIn, RowsCleared}
use Rattle.word_rules.specs.InRange.{PlaceInView}
use Rattle.word_rules.specs.CellWords.{first_row, row_count}

-- one turn of a loop that clears, and its end
pub clear_step : (wide : Bool) (f : Flags) (row end : ℕ) (marks : List Bool) → row < end →
    clear_rows wide f row (end - row) marks ≡ clear_rows wide f (row + 1) (end - (row + 1)) (clear_row wide f row marks)
unfolding clear_rows
clear_step wide f row end marks h =
    let e : end - row ≡ suc (end - (row + 1)) = omega arith in
    rw e

pub clear_none : (wide : Bool) (f : Flags) (first n : ℕ) (marks : List Bool) → n ≡ 0 → clear_rows wide f first n marks ≡ marks
unfolding clear_rows
clear_none wide f first n marks h = rw h

-- neither view has more than 1,024 rows
pub view_at_most : (wide : Bool) → view_rows wide ≤ 1024
view_at_most true = lit≤ tt
view_at_most false = lit≤ tt

-- the rows that a mode names lie in the view
in_view : (rows place : ℕ) (a b c : Bool) → (a ≡ true → place < rows) → (b ≡ true → 16 * place + 16 ≤ rows) → (c ≡ true → place < 2) →
    cond a place (cond b (16 * place) (cond c (rows / 2 * place) 0)) + cond a 1 (cond b 16 (cond c (rows / 2) rows)) ≤ rows
in_view rows place true b c p q r = omega (arith, p refl)
in_view rows place false true c p q r = omega (arith, q refl)
in_view rows place false false true p q r =
    let h : rows / 2 * place ≤ rows / 2 * 1 = mul-le-mul (le_refl (rows / 2)) (omega (arith, r refl)) in
    omega arith
in_view rows place false false false p q r = omega arith

pub rows_in_view : (mode : ℕ) (wide : Bool) (place : ℕ) → PlaceInView mode wide place → first_row mode wide place + row_count mode wide ≤ view_rows wide
rows_in_view mode wide place h =
    in_view (view_rows wide) place (eqb mode 0) (eqb mode 1) (eqb mode 2) (λ e. h.row (eqb-true mode 0 e)) (λ e. h.sixteen (eqb-true mode 1 e))
    (λ e. h.half (eqb-true mode 2 e))

-- clearing one mark: it is clear after it, a clear one stays so
set_clear : (marks : List Bool) (i : ℕ) → get_or (set marks i false) i false ≡ false
set_clear [] i = refl
set_clear (m ∷ marks) zero = refl
set_clear (m ∷ marks) (suc i) = set_clear marks i

stays_clear : (marks : List Bool) (i q : ℕ) → get_or marks q false ≡ false → get_or (set marks i false) q false ≡ false
stays_clear [] i q h = refl
stays_clear (m ∷ marks) zero zero h = refl
stays_clear (m ∷ marks) zero (suc q) h = h
stays_clear (m ∷ marks) (suc i) zero h = h
stays_clear (m ∷ marks) (suc i) (suc q) h = stays_clear marks i q h

-- the same of a view row
row_clear : (wide : Bool) (f : Flags) (row q : ℕ) (marks : List Bool) → LiesIn wide f row q → get_or (clear_row wide f row marks) q false ≡ false
unfolding clear_row
row_clear true f row q marks h =
    let high = (high32 f (view32 row)).0 in
    let low = (low32 f (view32 row)).0 in
    ⊎_elim (λ e. rw e (stays_clear (set marks high false) low high (set_clear marks high))) (λ e. rw e (set_clear (set marks high false) low)) h
row_clear false f row q marks h = rw h (set_clear marks (storage16 f (view16 row)).0)

row_stays : (wide : Bool) (f : Flags) (row q : ℕ) (marks : List Bool) → get_or marks q false ≡ false → get_or (clear_row wide f row marks) q false ≡ false
unfolding clear_row
row_stays true f row q marks h =
    let high = (high32 f (view32 row)).0 in
    stays_clear (set marks high false) (low32 f (view32 row)).0 q (stays_clear marks high q h)
row_stays false f row q marks h = stays_clear marks (storage16 f (view16 row)).0 q h

row_other : (wide : Bool) (f : Flags) (row q : ℕ) (marks : List Bool) → (LiesIn wide f row q → ⊥) → get_or (clear_row wide f row marks) q false ≡ get_or marks q false
unfolding clear_row
row_other true f row q marks h =
    let high = (high32 f (view32 row)).0 in
    get_or-set_other (set marks high false) (low32 f (view32 row)).0 q false false (λ e. h (inr e))
    ∙ get_or-set_other marks high q false false (λ e. h (inl e))
row_other false f row q marks h = get_or-set_other marks (storage16 f (view16 row)).0 q false false h

rows_stay : (wide : Bool) (f : Flags) (first n q : ℕ) (marks : List Bool) → get_or marks q false ≡ false → get_or (clear_rows wide f first n marks) q false ≡ false
unfolding clear_rows
rows_stay wide f first zero q marks h = h
rows_stay wide f first (suc n) q marks h = rows_stay wide f (first + 1) n q (clear_row wide f first marks) (row_stays wide f first q marks h)

rows_clear : (wide : Bool) (f : Flags) (first n row q : ℕ) (marks : List Bool) → first ≤ row → row < first + n → LiesIn wide f row q →
    get_or (clear_rows wide f first n marks) q false ≡ false
unfolding clear_rows
rows_clear wide f first zero row q marks h k l = absurd (omega arith)
rows_clear wide f first (suc n) row q marks h k l =
    elim (dec_lt first row) [
      | yes m ↦ rows_clear wide f (first + 1) n row q (clear_row wide f first marks) (omega (arith, m)) (omega arith) l
      | no m ↦
          let e : row ≡ first = omega (arith, m) in
          rows_stay wide f (first + 1) n q (clear_row wide f first marks) (row_clear wide f first q marks (rw e at l))
    ]

rows_other : (wide : Bool) (f : Flags) (first n q : ℕ) (marks : List Bool) →
    ((row : ℕ) → first ≤ row → row < first + n → LiesIn wide f row q → ⊥) → get_or (clear_rows wide f first n marks) q false ≡ get_or marks q false
unfolding clear_rows
rows_other wide f first zero q marks h = refl
rows_other wide f first (suc n) q marks h =
    rows_other wide f (first + 1) n q (clear_row wide f first marks) (λ row i j. h row (omega arith) (omega arith))
    ∙ row_other wide f first q marks (h first (le_refl first) (omega arith))

pub rows_cleared : (wide : Bool) (f : Flags) (first n : ℕ) (marks : List Bool) → RowsCleared wide f first n marks (clear_rows wide f first n marks)
rows_cleared wide f first n marks =
    record {
      cleared = λ row q h k l. rows_clear wide f first n row q marks h k l;
      kept = λ q h. rows_other wide f first n q marks h;
    }

row_long : (wide : Bool) (f : Flags) (row : ℕ) (marks : List Bool) → length (clear_row wide f row marks) ≡ length marks
unfolding clear_row
row_long true f row marks = simp length-set
row_long false f row marks = simp length-set

pub clear_long : (wide : Bool) (f : Flags) (first n : ℕ) (marks : List Bool) → length (clear_rows wide f first n marks) ≡ length marks
unfolding clear_rows
clear_long wide f first zero marks = refl
clear_long wide f first (suc n) marks = clear_long wide f (first + 1) n (clear_row wide f first marks) ∙ row_long wide f first marks
