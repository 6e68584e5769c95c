-- Laws of the table and of its parts, over any rows.
use Prim.Native.Nat.{ℕ}
use mathlib.Core.Path.{◌≡◌, refl}
use mathlib.Core.Bool.{Bool, true, false, cond}
use mathlib.Core.List.{List, [], ◌∷◌, ◌++◌}
use lib.Dec.{eqb}
use borrow.Author.Tests.{eqb-true}
use Rattle.bits.specs.Field.{field}
use Rattle.bits.proofs.Choices.{neither, cond_both}
use Rattle.machine.specs.Answers.{Told, refused}
use Rattle.word_rules.specs.declared.instruction.Instruction.{Instruction}
use Rattle.word_rules.specs.Table.{Row, nop_rows, cell_rows, bank_rows, scalar_rows, sync_rows, config_rows, table, control_rows, store_rows, has, said, decode_of}

-- a fact of what each row says of a word
abbrev pub Each : (Told Instruction → Type 0) → List Row → ℕ → Type 0
Each P [] w = Unit
Each P (r ∷ rs) w = P (r.says w) × Each P rs w

-- what each row says, and 2, is all that a word can say
pub each_said : (P : Told Instruction → Type 0) (rs : List Row) (op w : ℕ) → Each P rs w → P (refused 2 []) → P (said rs op w)
unfolding said
each_said P [] op w e p = p
each_said P (r ∷ rs) op w e p = cond_both P (eqb op r.opcode) e.0 (each_said P rs op w e.1 p)

-- a fact of each row's opcode
abbrev AtEach : (ℕ → Type 0) → List Row → Type 0
AtEach P [] = Unit
AtEach P (r ∷ rs) = P r.opcode × AtEach P rs

-- an opcode is that of a row, or of none
by_rows : (P : ℕ → Type 0) (rs : List Row) (op : ℕ) → AtEach P rs → (has rs op ≡ false → P op) → P op
unfolding has
by_rows P [] op e other = other refl
by_rows P (r ∷ rs) op e other = go (eqb op r.opcode) refl (λ o. by_rows P rs op e.1 o)
  where
    go : (b : Bool) → eqb op r.opcode ≡ b → ((has rs op ≡ false → P op) → P op) → P op
    go true h below = rw (eqb-true op r.opcode h) e.0
    go false h below = below (λ m. other (rw h m))

none_said : (rs : List Row) (op w : ℕ) → has rs op ≡ false → said rs op w ≡ refused 2 []
unfolding has said
none_said [] op w h = refl
none_said (r ∷ rs) op w h = let n = neither (eqb op r.opcode) (has rs op) h in rw n.0 (none_said rs op w n.1)

neither_has : (a b : List Row) (op : ℕ) → has (a ++ b) op ≡ false → (has a op ≡ false) × (has b op ≡ false)
unfolding has
neither_has [] b op h = (refl, h)
neither_has (r ∷ a) b op h =
    let n = neither (eqb op r.opcode) (has (a ++ b) op) h in
    let m = neither_has a b op n.1 in
    (rw n.0 m.0, m.1)

both_lack : (a b : List Row) (op : ℕ) → has a op ≡ false → has b op ≡ false → has (a ++ b) op ≡ false
unfolding has
both_lack [] b op h k = k
both_lack (r ∷ a) b op h k = let n = neither (eqb op r.opcode) (has a op) h in rw n.0 (both_lack a b op n.1 k)

-- the table, cut by whether a word works on the control part
cut : (op w : ℕ) → said table op w ≡ cond (has control_rows op) (said control_rows op w) (said store_rows op w)
unfolding has said
cut op w =
    by_rows (λ n. said table n w ≡ cond (has control_rows n) (said control_rows n w) (said store_rows n w)) table op
    (refl, (refl, (refl, (refl, (refl, (refl, (refl, (refl, (refl, (refl, (refl, (refl, (refl, (refl, (refl, (refl, (refl, (refl, (refl, (refl, (refl, (refl, (refl, (refl, tt))))))))))))))))))))))))
    (λ h. none_of_all h)
  where
    none_of_all : has table op ≡ false → said table op w ≡ cond (has control_rows op) (said control_rows op w) (said store_rows op w)
    none_of_all h =
        let nop = neither_has nop_rows (cell_rows ++ (bank_rows ++ (scalar_rows ++ (sync_rows ++ config_rows)))) op h in
        let cell = neither_has cell_rows (bank_rows ++ (scalar_rows ++ (sync_rows ++ config_rows))) op nop.1 in
        let bank = neither_has bank_rows (scalar_rows ++ (sync_rows ++ config_rows)) op cell.1 in
        let scalar = neither_has scalar_rows (sync_rows ++ config_rows) op bank.1 in
        let sync = neither_has sync_rows config_rows op scalar.1 in
        let control : has control_rows op ≡ false = both_lack bank_rows sync_rows op bank.0 sync.0 in
        let stores : has store_rows op ≡ false =
        both_lack nop_rows (scalar_rows ++ (config_rows ++ cell_rows)) op nop.0
        (both_lack scalar_rows (config_rows ++ cell_rows) op scalar.0 (both_lack config_rows cell_rows op sync.1 cell.0)) in
        rw (control, none_said table op w h, none_said store_rows op w stores)

pub decode_on_control : (w : ℕ) → has control_rows (field 24 8 w) ≡ true → decode_of w ≡ said control_rows (field 24 8 w) w
unfolding decode_of
decode_on_control w h = rw (cut (field 24 8 w) w, h)

pub decode_on_stores : (w : ℕ) → has control_rows (field 24 8 w) ≡ false → decode_of w ≡ said store_rows (field 24 8 w) w
unfolding decode_of
decode_on_stores w h = rw (cut (field 24 8 w) w, h)
