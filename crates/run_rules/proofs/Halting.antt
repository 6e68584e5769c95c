-- How a run goes on or ends, as equations of its definition.
use Prim.Native.Nat.{ℕ, zero, suc, ◌<◌}
use mathlib.Core.Path.{◌≡◌, refl, sym, ap, ◌∙◌}
use mathlib.Core.Bool.{Bool, true, false, cond}
use native.Mathlib.Omega.{arith}
use lib.Dec.{leb, eqb}
use borrow.Author.Tests.{leb-false, eqb-false}
use Rattle.machine.specs.Machine.{Machine}
use Rattle.machine.specs.Answers.{Told, accepted}
use Rattle.run_order.specs.declared.cursor.Cursor.{Cursor}
use Rattle.std.specs.Prelude.{Option, None}
use Rattle.run_order.specs.declared.ending.Ending.{Ending}
use Rattle.run_order.specs.Cursor.{Streams, used_up}
use Rattle.run_order.specs.Ending.{halt_of, refused_word, quiet_after, RunEnd, halts, goes_on, finished, stuck, budget_used, told_halt}
use Rattle.run_rules.specs.Run.{turn_of, stop, before, run_from}

-- what is so before a turn that is taken
pub record TurnDue (s : Streams) (c : Cursor) (quiet left : ℕ) : Type 0 where
  pub words : used_up s c ≡ false
  pub few : quiet < 3
  pub some : 0 < left

pub turn_due : (s : Streams) (c : Cursor) (quiet left : ℕ) → halt_of s c quiet left ≡ goes_on → TurnDue s c quiet left
unfolding halt_of
turn_due s c quiet left e = go (used_up s c) (leb 3 quiet) (eqb left 0) refl refl refl e
  where
    go : (x y z : Bool) → used_up s c ≡ x → leb 3 quiet ≡ y → eqb left 0 ≡ z →
        cond x (halts (accepted finished)) (cond y (halts (accepted stuck)) (cond z (halts (accepted budget_used)) goes_on)) ≡ goes_on → TurnDue s c quiet left
    go true y z ex ey ez h = let n : ◌≡◌ {A = ℕ} 0 1 = cc in absurd (omega arith)
    go false true z ex ey ez h = let n : ◌≡◌ {A = ℕ} 0 1 = cc in absurd (omega arith)
    go false false true ex ey ez h = let n : ◌≡◌ {A = ℕ} 0 1 = cc in absurd (omega arith)
    go false false false ex ey ez h = record { words = ex; few = leb-false 3 quiet ey; some = omega (arith, eqb-false left 0 ez) }

-- the same from the code's answer
pub due_after : (s : Streams) (c : Cursor) (quiet left : ℕ) (h : Option Ending) → told_halt h ≡ halt_of s c quiet left → h ≡ None → TurnDue s c quiet left
due_after s c quiet left h e on = turn_due s c quiet left (sym e ∙ ap told_halt on)

module _ (s : Streams) (quiet : ℕ) (m : Machine) (c : Cursor) where
  pub run_halts : (left : ℕ) (a : Told RunEnd) → halt_of s c quiet left ≡ halts a → run_from left s quiet m c ≡ stop a m c
  unfolding run_from
  run_halts zero a e = rw e
  run_halts (suc left) a e = rw e

  module _ (left : ℕ) (due : halt_of s c quiet (suc left) ≡ goes_on) where
    -- a turn whose word is refused is the last
    pub run_refused : (a : Told RunEnd) → refused_word (turn_of s m c).outcome ≡ halts a →
        run_from (suc left) s quiet m c ≡ before (turn_of s m c) (stop a (turn_of s m c).after (turn_of s m c).cursor)
    unfolding run_from
    run_refused a e = rw (due, e)

    pub run_on : refused_word (turn_of s m c).outcome ≡ goes_on →
        run_from (suc left) s quiet m c ≡
        before (turn_of s m c)
        (run_from left s (quiet_after (turn_of s m c).outcome quiet) (turn_of s m c).after (turn_of s m c).cursor)
    unfolding run_from
    run_on e = rw (due, e)
