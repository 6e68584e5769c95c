use mathlib.Core.Path.{refl, sym, ap}
use Prim.Native.Nat.{ℕ, ◌+◌}
use Rattle.text.specs.Hex.{hex_word}
use Rattle.text.proofs.Digits.{hex_long}
use Rattle.text.proofs.put_hex_word.Goals as goal

pub returns : goal.returns
unfolding hex_word
returns c =
    let a = c.args in
    record { wrote = record { placed = ap (λ (x : ℕ). a.at + x) (sym (hex_long a.w)); list = c.put_digits.ensures }; short = refl }
