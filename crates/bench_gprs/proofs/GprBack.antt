-- What is written to a GPR is read back, and every other GPR is left.
use Prim.Native.Nat.{ℕ, ◌≤◌}
use mathlib.Core.List.{List}
use mathlib.Core.Path.{◌≡◌, refl, sym, ap, ◌∙◌}
use native.Mathlib.Omega.{arith}
use lib.Dec.{eqb, leb}
use lib.ListN.{length, get_or, set, length-set}
use lib.Seq.{get_or-set_same, get_or-set_other}
use borrow.Author.Tests.{leb-true}
use Rattle.machine.specs.Sizes.{gpr_count}
use Rattle.machine.specs.Units.{gpr, gpr_place}
use Rattle.machine.specs.Answers.{Told, accepted, provided}
use Rattle.bench_gprs.specs.Gprs.{gpr_check, read_gpr_of, write_gpr_of}
use Rattle.bench_gprs.specs.Promises.{GprPromises}
use Rattle.machine.proofs.Checks.{checked_answer, checked_after, whole_found, provided_alike}
use Rattle.bench_gprs.proofs.Facts.{gpr_before, gpr_facts}

-- an accepted write sets the GPR's own place
written : (g : List ℕ) (thread register value : ℕ) → ◌≡◌ {A = Told (Unit {0})} (accepted tt) (gpr_check (length g) thread register (accepted tt)) → (write_gpr_of g thread register value).after ≡ set g (gpr_place thread (gpr register)) value
unfolding write_gpr_of
written g thread register value e = rw (← e)

read_back_lem : (g : List ℕ) (thread register value : ℕ) → (write_gpr_of g thread register value).answer ≡ accepted tt → read_gpr_of (write_gpr_of g thread register value).after thread register ≡ accepted value
unfolding read_gpr_of write_gpr_of
read_back_lem g thread register value h =
    let p = gpr_place thread (gpr register) in
    let whole : Told (Unit {0}) = gpr_check (length g) thread register (accepted tt) in
    let e : accepted tt ≡ whole = sym h ∙ checked_answer whole g _ in
    let f = gpr_facts (length g) thread register (accepted tt) tt e in
    rw (written g thread register value e, length-set g p value, get_or-set_same g p value 0 (omega arith))
    (sym (whole_found (accepted value) (gpr_before tt (accepted value) (length g) thread register) e))

-- two GPRs that stand at one place are one
same_place : (t r u q : ℕ) → r ≤ 63 → q ≤ 63 → gpr_place u (gpr q) ≡ gpr_place t (gpr r) → (t ≡ u) × (r ≡ q)
same_place t r u q h k e = (omega arith, omega arith)

-- a read goes by the one entry
read_alike : (n t r : ℕ) (x y : Told ℕ) → (r ≤ 63 → x ≡ y) → gpr_check n t r x ≡ gpr_check n t r y
unfolding gpr_check
read_alike n t r x y h =
    provided_alike (eqb n gpr_count) 4 (provided (leb t 2) 1 (provided (leb r 63) 11 x)) (provided (leb t 2) 1 (provided (leb r 63) 11 y))
    (λ a. provided_alike (leb t 2) 1 (provided (leb r 63) 11 x) (provided (leb r 63) 11 y) (λ b. provided_alike (leb r 63) 11 x y (λ c. h (leb-true r 63 c))))

others_left_lem : (g : List ℕ) (thread register value thread' register' : ℕ) → ((thread ≡ thread') × (register ≡ register') → ⊥) → read_gpr_of (write_gpr_of g thread register value).after thread' register' ≡ read_gpr_of g thread' register'
unfolding read_gpr_of write_gpr_of
others_left_lem g t r v u q apart =
    let p = gpr_place t (gpr r) in
    let whole : Told (Unit {0}) = gpr_check (length g) t r (accepted tt) in
    checked_after (λ (l : List ℕ). read_gpr_of l u q ≡ read_gpr_of g u q) whole g (set g p v) refl
    (λ e.
    let f = gpr_facts (length g) t r (accepted tt) tt e in
    rw (length-set g p v)
    (read_alike (length g) u q (accepted (get_or (set g p v) (gpr_place u (gpr q)) 0)) (accepted (get_or g (gpr_place u (gpr q)) 0))
    (λ k. ap accepted (get_or-set_other g p (gpr_place u (gpr q)) v 0 (λ m. apart (same_place t r u q f.register_in k m))))))

pub gpr_promises : GprPromises
gpr_promises = record { read_back = read_back_lem; others_left = others_left_lem }
