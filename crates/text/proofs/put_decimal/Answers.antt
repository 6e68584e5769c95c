use Rattle.text.proofs.Digits.{count_at_most, decimal_digits, digits_long}
use Rattle.text.specs.Decimal.{digit_count, digits_most}
use mathlib.Core.Path.{◌≡◌, sym, ap, ◌∙◌}
use Prim.Native.Nat.{ℕ, ◌+◌, ◌≤◌}
use native.Mathlib.Omega.{arith}
use Rattle.text.proofs.put_decimal.Goals as goal

-- there are at most so many digits
few : (n k : ℕ) → k ≡ digit_count digits_most n → k ≤ digits_most
few n k e = omega (arith, count_at_most digits_most n)

pub put_digits-requires : goal.put_digits-requires
put_digits-requires c = omega (arith, few _ _ c.digit_count-k.ensures)

pub overflow_add-result : goal.overflow_add-result
overflow_add-result c = omega (arith, few _ _ c.digit_count-k.ensures)

pub returns : goal.returns
returns c =
    let e = c.digit_count-k.ensures in
    let a = c.args in
    let long = e ∙ sym (digits_long (digit_count digits_most a.n) a.n) in
    record { wrote = record { placed = ap (λ (x : ℕ). a.at + x) long; list = rw (decimal_digits, e) at c.put_digits.ensures }; short = omega (arith, few _ _ e) }
