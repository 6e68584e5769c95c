-- Byte formats as values, and how larger ones are made of smaller ones.
use Rattle.std.specs.Prelude.{ℕ, zero, suc, ◌+◌, ◌*◌, ◌≤◌, Bool, cond, ◌&&◌, List, [], ◌∷◌, ◌++◌, leb, ltb, eqb, length, drop}
use Rattle.bits.specs.Bytes.{enc, le}

-- A format of the values of A. `put` writes a value as `size` bytes, and `get` reads it back from the start of a list.
-- `good` is the offset of the first field that is missing, cut or out of range, and `size` where there is none.
-- `Ok` says which values can be written.
pub record Format (A : Type 0) : Type 1 where
  pub size : ℕ
  pub put : A → List ℕ
  pub get : List ℕ → A
  pub good : List ℕ → ℕ
  pub Ok : A → Type 0

-- a field of w bytes, from lo to hi: 0 where it is cut or out of range, else w
unfoldable pub num_good : ℕ → ℕ → ℕ → List ℕ → ℕ
num_good w lo hi bs = cond (leb w (length bs) && (leb lo (le w bs) && leb (le w bs) hi)) w 0

abbrev pub num : ℕ → ℕ → ℕ → Format ℕ
num w lo hi =
    record {
      size = w;
      put = enc w;
      get = le w;
      good = num_good w lo hi;
      Ok = λ v. (lo ≤ v) × (v ≤ hi);
    }

-- how far two parts in a row are good: to a where that is short of the first part's n bytes, else b bytes into the second
unfoldable pub good_across : ℕ → ℕ → ℕ → ℕ
good_across a n b = cond (ltb a n) a (n + b)

-- one after the other; the second's limits may hang on the first's value, and each second has the size s
abbrev pub dep : {A B : Type 0} → Format A → (A → Format B) → ℕ → Format (A × B)
dep f g s =
    record {
      size = f.size + s;
      put = λ t. f.put t.0 ++ (g t.0).put t.1;
      get = λ bs. (f.get bs, (g (f.get bs)).get (drop f.size bs));
      good = λ bs. good_across (f.good bs) f.size ((g (f.get bs)).good (drop f.size bs));
      Ok = λ t. f.Ok t.0 × (g t.0).Ok t.1;
    }

abbrev pub both : {A B : Type 0} → Format A → Format B → Format (A × B)
both f g = dep f (λ _. g) g.size

-- n of them. What is done with each is an argument, so that two formats that differ elsewhere do the same here
unfoldable pub many_put : {A : Type 0} → (A → List ℕ) → List A → List ℕ
many_put put [] = []
many_put put (a ∷ l) = put a ++ many_put put l

unfoldable pub many_get : {A : Type 0} → (List ℕ → A) → ℕ → ℕ → List ℕ → List A
many_get get size zero bs = []
many_get get size (suc n) bs = get bs ∷ many_get get size n (drop size bs)

unfoldable pub many_good : (List ℕ → ℕ) → ℕ → ℕ → List ℕ → ℕ
many_good good size zero bs = 0
many_good good size (suc n) bs = good_across (good bs) size (many_good good size n (drop size bs))

unfoldable pub many_ok : {A : Type 0} → (A → Type 0) → ℕ → List A → Type 0
many_ok Ok zero [] = Unit
many_ok Ok zero (a ∷ l) = ⊥
many_ok Ok (suc n) [] = ⊥
many_ok Ok (suc n) (a ∷ l) = Ok a × many_ok Ok n l

abbrev pub many : {A : Type 0} → ℕ → Format A → Format (List A)
many n f =
    record {
      size = n * f.size;
      put = λ l. many_put f.put l;
      get = λ bs. many_get f.get f.size n bs;
      good = λ bs. many_good f.good f.size n bs;
      Ok = λ l. many_ok f.Ok n l;
    }

-- n numbers of w bytes, each at most hi
abbrev pub numbers : ℕ → ℕ → ℕ → Format (List ℕ)
numbers n w hi = many n (num w 0 hi)

-- the same bytes, for those values of another type that have the shape P
abbrev pub via_on : {A B : Type 0} → (B → Type 0) → (A → B) → (B → A) → Format A → Format B
via_on P to of f =
    record {
      size = f.size;
      put = λ b. f.put (of b);
      get = λ bs. to (f.get bs);
      good = f.good;
      Ok = λ b. P b × f.Ok (of b);
    }

-- the same, for every value of the other type
abbrev pub via : {A B : Type 0} → (A → B) → (B → A) → Format A → Format B
via to of f = via_on (λ _. Unit) to of f

-- a number of w bytes that is always v
abbrev pub fixed : ℕ → ℕ → Format Unit
fixed w v = via (λ _. tt) (λ _. v) (num w v v)

-- the largest that a field after a kind byte may be: with kind 0, for nothing, the rest is zero
unfoldable pub most_after : ℕ → ℕ → ℕ
most_after k most = cond (eqb k 0) 0 most

-- a record's head: the body's length in 4 bytes, and its kind in 2
abbrev pub head_bytes : ℕ
head_bytes = 6

abbrev pub head : ℕ → ℕ → Format (Unit {0} × Unit {0})
head n k = both (fixed 4 n) (fixed 2 k)

-- a record of kind k: the head and the body
abbrev pub kind : {A : Type 0} → ℕ → Format A → Format A
kind k f = via (λ t. t.1) (λ a. ((tt, tt), a)) (both (head f.size k) f)

-- the bytes are one value, with nothing missing, out of range or left over
unfoldable pub accepts : {A : Type 0} → Format A → List ℕ → Bool
accepts f bs = eqb (length bs) f.size && eqb (f.good bs) f.size
