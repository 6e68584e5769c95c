-- Laws of words in a row, and of a test of any of them.
use Prim.Native.Nat.{ℕ, ◌+◌, ◌-◌, ◌<◌}
use mathlib.Core.Bool.{Bool, true, false, ◌||◌}
use mathlib.Core.List.{List, [], ◌∷◌, ◌++◌}
use mathlib.Core.Path.{◌≡◌, refl, sym, ap}
use native.Mathlib.Numerals.{add-one}
use native.Mathlib.Omega.{arith}
use lib.ListN.{length, get_or, take, drop, length-drop, take-append-drop}
use lib.Seq.{drop-cons, take_all, take_at}
use Rattle.std.specs.List.{list_any}
use Rattle.bits.specs.Overwrite.{over}
use Rattle.expander_rules.specs.Stream.{any_word}

-- a turn of a loop over the words
pub words_next : (l : List ℕ) (i : ℕ) → i < length l → drop i l ≡ (get_or l i 0 ∷ []) ++ drop (i + 1) l
words_next l i h = rw (add-one i) (drop-cons l i 0 h)

-- words cut in two, the second part as a slice has it
pub cut_at : (l : List ℕ) (k : ℕ) → l ≡ take k l ++ take (length l - k) (drop k l)
cut_at l k =
    let all : take (length l - k) (drop k l) ≡ drop k l = take_all (length l - k) (drop k l) (omega (arith, length-drop k l)) in
    rw all (sym (take-append-drop k l))

-- what was written at a list's start, taken from there
pub taken_back : (l words : List ℕ) (n : ℕ) → n ≡ length words → take n (over l 0 words) ≡ words
unfolding over
taken_back l words n e = rw e (take_at words (drop (0 + length words) l) (length words) (omega arith))

pub or_assoc : (a b c : Bool) → (a || (b || c)) ≡ ((a || b) || c)
or_assoc true b c = refl
or_assoc false b c = refl

module _ (test : ℕ → Bool) where
  pub any_append : (x y : List ℕ) → any_word test (x ++ y) ≡ (any_word test x || any_word test y)
  unfolding any_word
  any_append [] y = refl
  any_append (word ∷ x) y = rw (any_append x y) (or_assoc (test word) (any_word test x) (any_word test y))

  -- as the library tests a list
  pub any_listed : (l : List ℕ) → list_any test l ≡ any_word test l
  unfolding any_word
  any_listed [] = refl
  any_listed (word ∷ l) = ap (λ (b : Bool). test word || b) (any_listed l)

  -- where none is
  pub none_nil : any_word test [] ≡ false
  unfolding any_word
  none_nil = refl

  pub none_cons : (word : ℕ) (l : List ℕ) → test word ≡ false → any_word test l ≡ false → any_word test (word ∷ l) ≡ false
  unfolding any_word
  none_cons word l p q = rw (p, q)

  pub none_one : (word : ℕ) → test word ≡ false → any_word test (word ∷ []) ≡ false
  none_one word p = none_cons word [] p none_nil

  pub none_append : (x y : List ℕ) → any_word test x ≡ false → any_word test y ≡ false → any_word test (x ++ y) ≡ false
  none_append x y p q = rw (any_append x y, p, q)
