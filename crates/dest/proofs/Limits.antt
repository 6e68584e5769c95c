-- What a number that a view takes as a row is.
use Prim.Native.Nat.{ℕ, ◌<◌}
use mathlib.Core.Path.{◌≡◌}
use native.Mathlib.Omega.{arith}
use lib.Dec.{ltb}
use borrow.Author.Tests.{ltb-true}
use Rattle.std.specs.Prelude.{Option, Some}
use Rattle.bits.proofs.Choices.{cond_cases}
use Rattle.dest.specs.declared.rows.View16Row.{View16Row}
use Rattle.dest.specs.declared.rows.View32Row.{View32Row}
use Rattle.dest.specs.Rows.{rows16, rows32, view16, view32, row16_of, row32_of}

pub in16 : (n : ℕ) (r : View16Row) → row16_of n ≡ Some r → (n < rows16) × (r ≡ view16 n)
in16 n r =
    cond_cases (λ (x : Option View16Row). x ≡ Some r → (n < rows16) × (r ≡ view16 n)) (ltb n rows16) (λ t e. (ltb-true n rows16 t, cc))
    (λ t e. let z : ◌≡◌ {A = ℕ} 0 1 = cc in absurd (omega arith))

pub in32 : (n : ℕ) (r : View32Row) → row32_of n ≡ Some r → (n < rows32) × (r ≡ view32 n)
in32 n r =
    cond_cases (λ (x : Option View32Row). x ≡ Some r → (n < rows32) × (r ≡ view32 n)) (ltb n rows32) (λ t e. (ltb-true n rows32 t, cc))
    (λ t e. let z : ◌≡◌ {A = ℕ} 0 1 = cc in absurd (omega arith))
