-- What makes a format right, and one law for each way of making a format, over every width, count and limit.
use Prim.Native.Nat.{ℕ, zero, suc, ◌+◌, ◌*◌, ◌^◌, ◌≤◌, ◌<◌}
use mathlib.Core.Path.{◌≡◌, refl, sym, ap, ap₂, ◌∙◌, subst}
use mathlib.Core.Bool.{Bool, true, false, ◌&&◌}
use mathlib.Core.List.{List, [], ◌∷◌, ◌++◌, append_assoc, append-nil}
use native.Mathlib.Nat.{suc-mul}
use native.Mathlib.Omega.{arith}
use lib.Dec.{leb, eqb}
use lib.ListN.{length, drop, length-append}
use lib.Seq.{drop_at, drop-drop, drop-length}
use borrow.Author.Tests.{eq-eqb, ne_eqb, eqb-true, le-leb, leb-true}
use Rattle.bits.specs.Bytes.{enc, le, Bytes}
use Rattle.bits.specs.Ranges.{all_at_most}
use Rattle.bits.proofs.Bytes.{bytes_drop, enc_long, le_enc, enc_le}
use Rattle.bits.proofs.Choices.{and_left, and_right, and_intro}
use Rattle.format.specs.Format.{Format, num, dep, both, many, many_put, many_get, many_good, many_ok, numbers, via_on, via, fixed, kind, accepts}
use Rattle.format.proofs.Fields.{num_in, num_le, num_whole, across_on, across_le, across_whole, across_of}

-- reading gives back what was written, and writing what was read gives back its bytes
pub record Lawful {A : Type 0} (f : Format A) : Type 0 where
  pub long : (a : A) → f.Ok a → length (f.put a) ≡ f.size
  pub get_put : (a : A) (rest : List ℕ) → f.Ok a → f.get (f.put a ++ rest) ≡ a
  pub good_put : (a : A) (rest : List ℕ) → f.Ok a → f.good (f.put a ++ rest) ≡ f.size
  pub good_le : (bs : List ℕ) → f.good bs ≤ f.size
  pub put_get : (bs : List ℕ) → Bytes bs → f.good bs ≡ f.size → f.put (f.get bs) ++ drop f.size bs ≡ bs
  pub ok_get : (bs : List ℕ) → Bytes bs → f.good bs ≡ f.size → f.Ok (f.get bs)

-- ---- a number
pub num_lawful : (w lo hi : ℕ) → 0 < w → hi < 256 ^ w → Lawful (num w lo hi)
num_lawful w lo hi pos room =
    record {
      long = λ a ok. enc_long w a;
      get_put = λ a rest ok. le_enc w a rest (omega arith);
      good_put = λ a rest ok.
          let e : le w (enc w a ++ rest) ≡ a = le_enc w a rest (omega arith) in
          num_in w lo hi (enc w a ++ rest) (omega (arith, length-append (enc w a) rest, enc_long w a)) (omega arith) (omega arith);
      good_le = λ bs. num_le w lo hi bs;
      put_get = λ bs b e. enc_le w bs b (num_whole w lo hi bs pos e).0;
      ok_get = λ bs b e. let k = num_whole w lo hi bs pos e in (k.1, k.2);
    }

-- ---- one after the other
module _ {A B : Type 0} (f : Format A) (g : A → Format B) (s : ℕ) (F : Lawful f) (G : (a : A) → Lawful (g a)) (S : (a : A) → (g a).size ≡ s) where
  dep_next : (t : A × B) (rest : List ℕ) → f.Ok t.0 →
      drop f.size (f.put t.0 ++ ((g t.0).put t.1 ++ rest)) ≡ (g t.0).put t.1 ++ rest
  dep_next t rest ok = drop_at (f.put t.0) _ f.size (F.long t.0 ok)

  dep_le : (bs : List ℕ) → (g (f.get bs)).good (drop f.size bs) ≤ s
  dep_le bs = rw (← S (f.get bs)) ((G (f.get bs)).good_le (drop f.size bs))

  dep_whole : (bs : List ℕ) → (dep f g s).good bs ≡ f.size + s →
      (f.good bs ≡ f.size) × ((g (f.get bs)).good (drop f.size bs) ≡ (g (f.get bs)).size)
  dep_whole bs e =
      let k = across_whole (f.good bs) f.size ((g (f.get bs)).good (drop f.size bs)) s (F.good_le bs) (dep_le bs) e in
      (k.0, k.1 ∙ sym (S (f.get bs)))

  pub dep_lawful : Lawful (dep f g s)
  dep_lawful =
      record {
        long = λ t ok.
            length-append (f.put t.0) ((g t.0).put t.1)
            ∙ ap₂ (λ (x y : ℕ). x + y) (F.long t.0 ok.0) ((G t.0).long t.1 ok.1 ∙ S t.0);
        get_put = λ t rest ok.
            let second = (g t.0).put t.1 in
            rw (append_assoc (f.put t.0) second rest, F.get_put t.0 (second ++ rest) ok.0, dep_next t rest ok.0)
            (ap (λ (y : B). (t.0, y)) ((G t.0).get_put t.1 rest ok.1));
        good_put = λ t rest ok.
            let second = (g t.0).put t.1 in
            let goods = across_of f.size refl (F.good_put t.0 (second ++ rest) ok.0) ((G t.0).good_put t.1 rest ok.1 ∙ S t.0) in
            rw (append_assoc (f.put t.0) second rest, F.get_put t.0 (second ++ rest) ok.0, dep_next t rest ok.0)
            (goods ∙ across_on f.size f.size s (omega arith));
        good_le = λ bs. across_le _ _ _ _ (F.good_le bs) (dep_le bs);
        put_get = λ bs b e.
            let k = dep_whole bs e in
            rw (append_assoc, ← drop-drop s f.size bs, ← S (f.get bs), (G (f.get bs)).put_get (drop f.size bs) (bytes_drop f.size bs b) k.1)
            (F.put_get bs b k.0);
        ok_get = λ bs b e.
            let k = dep_whole bs e in
            (F.ok_get bs b k.0, (G (f.get bs)).ok_get (drop f.size bs) (bytes_drop f.size bs b) k.1);
      }

pub both_lawful : {A B : Type 0} (f : Format A) (g : Format B) → Lawful f → Lawful g → Lawful (both f g)
both_lawful f g F G = dep_lawful f (λ _. g) g.size F (λ _. G) (λ _. refl)

-- ---- n of them: one, and then the rest
abbrev cons : {A : Type 0} → A × List A → List A
cons t = t.0 ∷ t.1

many_none : {A : Type 0} (f : Format A) (P : List A → Type 0) → P [] → (l : List A) → many_ok f.Ok 0 l → P l
unfolding many_ok
many_none f P h [] ok = h
many_none f P h (a ∷ l) ok = absurd ok

many_more : {A : Type 0} (n : ℕ) (f : Format A) (P : List A → Type 0) →
    ((t : A × List A) → (both f (many n f)).Ok t → P (cons t)) → (l : List A) → many_ok f.Ok (suc n) l → P l
unfolding many_ok
many_more n f P h [] ok = absurd ok
many_more n f P h (a ∷ l) ok = h (a, l) ok

pub many_lawful : {A : Type 0} (n : ℕ) (f : Format A) → Lawful f → Lawful (many n f)
unfolding many_put many_get many_good many_ok
many_lawful {A} zero f F =
    let none : 0 * f.size ≡ 0 = omega arith in
    record {
      long = λ l ok. many_none f (λ (l : List A). length (many_put f.put l) ≡ 0 * f.size) (sym none) l ok;
      get_put = λ l rest ok. many_none f (λ (l : List A). [] ≡ l) refl l ok;
      good_put = λ a rest ok. sym none;
      good_le = λ bs. omega arith;
      put_get = λ bs b e. ap (λ (n : ℕ). drop n bs) none;
      ok_get = λ bs b e. tt;
    }
many_lawful {A} (suc n) f F =
    let R : Lawful (both f (many n f)) = both_lawful f (many n f) F (many_lawful n f F) in
    let size : suc n * f.size ≡ f.size + n * f.size = suc-mul n f.size ∙ omega arith in
    record {
      long = λ l ok. many_more n f (λ (l : List A). length (many_put f.put l) ≡ suc n * f.size) (λ t ok. R.long t ok ∙ sym size) l ok;
      get_put = λ l rest ok.
          many_more n f (λ (l : List A). many_get f.get f.size (suc n) (many_put f.put l ++ rest) ≡ l) (λ t ok. ap cons (R.get_put t rest ok)) l ok;
      good_put = λ l rest ok.
          let good : List A → ℕ = λ l. many_good f.good f.size (suc n) (many_put f.put l ++ rest) in
          many_more n f (λ (l : List A). good l ≡ suc n * f.size) (λ t ok. R.good_put t rest ok ∙ sym size) l ok;
      good_le = λ bs. subst (λ (k : ℕ). many_good f.good f.size (suc n) bs ≤ k) (sym size) (R.good_le bs);
      put_get = λ bs b e. ap (λ (k : ℕ). many_put f.put (many_get f.get f.size (suc n) bs) ++ drop k bs) size ∙ R.put_get bs b (e ∙ size);
      ok_get = λ bs b e. R.ok_get bs b (e ∙ size);
    }

pub numbers_lawful : (n w hi : ℕ) → 0 < w → hi < 256 ^ w → Lawful (numbers n w hi)
numbers_lawful n w hi pos room = many_lawful n (num w 0 hi) (num_lawful w 0 hi pos room)

-- ---- for the values of another type that have a shape
pub via_on_lawful : {A B : Type 0} (P : B → Type 0) (to : A → B) (of : B → A) (f : Format A) → Lawful f →
    ((b : B) → (via_on P to of f).Ok b → to (of b) ≡ b) → ((a : A) → f.Ok a → of (to a) ≡ a) → ((a : A) → f.Ok a → P (to a)) →
    Lawful (via_on P to of f)
via_on_lawful {A} P to of f F there back shape =
    record {
      long = λ b ok. F.long (of b) ok.1;
      get_put = λ b rest ok. ap to (F.get_put (of b) rest ok.1) ∙ there b ok;
      good_put = λ b rest ok. F.good_put (of b) rest ok.1;
      good_le = F.good_le;
      put_get = λ bs b e. ap (λ (a : A). f.put a ++ drop f.size bs) (back (f.get bs) (F.ok_get bs b e)) ∙ F.put_get bs b e;
      ok_get = λ bs b e.
          let ok = F.ok_get bs b e in
          (shape (f.get bs) ok, subst (λ (a : A). f.Ok a) (sym (back (f.get bs) ok)) ok);
    }

pub via_lawful : {A B : Type 0} (to : A → B) (of : B → A) (f : Format A) → Lawful f →
    ((b : B) → to (of b) ≡ b) → ((a : A) → f.Ok a → of (to a) ≡ a) → Lawful (via to of f)
via_lawful to of f F there back = via_on_lawful (λ _. Unit) to of f F (λ b _. there b) back (λ a ok. tt)

pub fixed_lawful : (w v : ℕ) → 0 < w → v < 256 ^ w → Lawful (fixed w v)
fixed_lawful w v pos room = via_lawful _ _ (num w v v) (num_lawful w v v pos room) (λ b. refl) (λ a ok. omega arith)

pub kind_lawful : {A : Type 0} (k : ℕ) (f : Format A) → f.size < 256 ^ 4 → k < 256 ^ 2 → Lawful f → Lawful (kind k f)
kind_lawful k f a b F =
    via_lawful _ _ (both (both (fixed 4 f.size) (fixed 2 k)) f)
    (both_lawful _ f (both_lawful _ _ (fixed_lawful 4 f.size (omega arith) a) (fixed_lawful 2 k (omega arith) b)) F)
    (λ x. refl)
    (λ t ok. refl)

-- ---- whether bytes are accepted, by their number and how far they are good
module _ {A : Type 0} (f : Format A) (bs : List ℕ) where
  pub accepts_not_long : (length bs ≡ f.size → ⊥) → accepts f bs ≡ false
  unfolding accepts
  accepts_not_long h = simp (ne_eqb _ _ h)

  pub accepts_not_good : length bs ≡ f.size → (f.good bs ≡ f.size → ⊥) → accepts f bs ≡ false
  unfolding accepts
  accepts_not_good h k = simp (eq-eqb _ _ h, ne_eqb _ _ k)

  pub accepts_yes : length bs ≡ f.size → f.good bs ≡ f.size → accepts f bs ≡ true
  unfolding accepts
  accepts_yes h k = simp (eq-eqb _ _ h, eq-eqb _ _ k)

  -- the same by a test that goes by names
  pub accepts_test : {n g : ℕ} {r : Bool} → r ≡ (eqb (length bs) n && eqb g n) → n ≡ f.size → g ≡ f.good bs → r ≡ accepts f bs
  unfolding accepts
  accepts_test e p q = e ∙ rw (p, q)

  pub accepts_whole : accepts f bs ≡ true → (length bs ≡ f.size) × (f.good bs ≡ f.size)
  unfolding accepts
  accepts_whole e =
      let long = eqb (length bs) f.size in
      let good = eqb (f.good bs) f.size in
      (eqb-true _ _ (and_left long good e), eqb-true _ _ (and_right long good e))

-- ---- what can be written: a record where its body can, and n numbers where they are n and in range
pub kind_ok : {A : Type 0} (k : ℕ) (f : Format A) (a : A) → f.Ok a → (kind k f).Ok a
kind_ok k f a ok = (tt, (((tt, (omega arith, omega arith)), (tt, (omega arith, omega arith))), ok))

pub numbers_ok : (w hi n : ℕ) (l : List ℕ) → length l ≡ n → all_at_most hi l ≡ true → (numbers n w hi).Ok l
unfolding many_ok all_at_most
numbers_ok w hi zero [] e h = tt
numbers_ok w hi zero (x ∷ l) e h = absurd (omega arith)
numbers_ok w hi (suc n) [] e h = absurd (omega arith)
numbers_ok w hi (suc n) (x ∷ l) e h =
    ((omega arith, leb-true x hi (and_left (leb x hi) (all_at_most hi l) h)), numbers_ok w hi n l (omega arith) (and_right (leb x hi) (all_at_most hi l) h))

pub ok_numbers : (w hi n : ℕ) (l : List ℕ) → (numbers n w hi).Ok l → (length l ≡ n) × (all_at_most hi l ≡ true)
unfolding many_ok all_at_most
ok_numbers w hi zero [] ok = (refl, refl)
ok_numbers w hi zero (x ∷ l) ok = absurd ok
ok_numbers w hi (suc n) [] ok = absurd ok
ok_numbers w hi (suc n) (x ∷ l) ok =
    let rest = ok_numbers w hi n l ok.1 in
    (ap suc rest.0, and_intro (leb x hi) (all_at_most hi l) (le-leb x hi ok.0.1) rest.1)

-- ---- a whole value, with nothing after it
module _ {A : Type 0} (f : Format A) (F : Lawful f) where
  pub whole_accepts : (a : A) → f.Ok a → accepts f (f.put a) ≡ true
  unfolding accepts
  whole_accepts a ok = simp (eq-eqb _ _ (F.long a ok), eq-eqb _ _ (rw append-nil at (F.good_put a [] ok)))

  pub whole_get : (a : A) → f.Ok a → f.get (f.put a) ≡ a
  whole_get a ok = rw append-nil at (F.get_put a [] ok)

  pub whole_put : (bs : List ℕ) → Bytes bs → accepts f bs ≡ true → f.put (f.get bs) ≡ bs
  whole_put bs b e =
      let k = accepts_whole f bs e in
      let none : drop f.size bs ≡ [] = rw (← k.0) (drop-length bs) in
      sym (append-nil _) ∙ ap (λ (l : List ℕ). f.put (f.get bs) ++ l) (sym none) ∙ F.put_get bs b k.1

  pub whole_ok : (bs : List ℕ) → Bytes bs → accepts f bs ≡ true → f.Ok (f.get bs)
  whole_ok bs b e = F.ok_get bs b (accepts_whole f bs e).1
