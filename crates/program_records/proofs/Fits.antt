-- What a record that is there has: at most so many bytes, and all of them.
use Prim.Native.Nat.{ℕ, ◌+◌, ◌*◌, ◌%◌, ◌≤◌}
use mathlib.Core.Path.{◌≡◌, sym, ◌∙◌, subst}
use mathlib.Core.List.{List}
use native.Mathlib.Omega.{arith}
use lib.Dec.{leb, eqb}
use lib.ListN.{length, drop, length-drop}
use borrow.Author.Tests.{leb-true}
use Rattle.std.specs.Prelude.{Option, Some, None, Result, Ok, Err}
use Rattle.bits.proofs.Choices.{cond_both, cond_cases}
use Rattle.format.specs.Format.{head_bytes}
use Rattle.program_records.specs.declared.counts.Counts.{Counts}
use Rattle.program_records.specs.declared.head.BadRecord.{BadRecord}
use Rattle.program_records.specs.Head.{bad, words_kind, body_length, record_kind, body_of}
use Rattle.program_records.specs.Counts.{in_words, words_record_of, past, after_second, after_first, from_start, counts_of, words_end}

abbrev BodyFits : ℕ → List ℕ → Option ℕ → Type 0
BodyFits most bs (Some n) = (n ≤ most) × (head_bytes + n ≤ length bs)
BodyFits most bs None = Unit

body_fits : (kind most : ℕ) (bs : List ℕ) → BodyFits most bs (body_of kind most bs)
unfolding body_of
body_fits kind most bs =
    let n = body_length bs in
    cond_both (BodyFits most bs) (leb head_bytes (length bs))
    (cond_both (BodyFits most bs) (eqb (record_kind bs) kind)
    (cond_cases (BodyFits most bs) (leb n most)
    (λ e.
    cond_cases (BodyFits most bs) (leb (head_bytes + n) (length bs)) (λ f. (leb-true n most e, leb-true (head_bytes + n) (length bs) f)) (λ f. tt))
    (λ e. tt)) tt) tt

abbrev WordsFit : ℕ → List ℕ → Option ℕ → Type 0
WordsFit most bs (Some n) = (4 * n ≤ most) × (head_bytes + 4 * n ≤ length bs)
WordsFit most bs None = Unit

in_words_fit : (most : ℕ) (bs : List ℕ) (b : Option ℕ) → BodyFits most bs b → WordsFit most bs (in_words b)
in_words_fit most bs (Some n) f =
    cond_cases (WordsFit most bs) (eqb (n % 4) 0) (λ e. let h = f.0 in let g = f.1 in (omega arith, omega arith)) (λ e. tt)
in_words_fit most bs None f = tt

words_fit : (most kind : ℕ) (bs : List ℕ) → WordsFit most bs (words_record_of most kind bs)
unfolding words_record_of
words_fit most kind bs = in_words_fit most bs (body_of kind most bs) (body_fits kind most bs)

-- a record of words that goes by a name
pub few : (most kind : ℕ) (bs : List ℕ) (r : Option ℕ) (n : ℕ) → r ≡ words_record_of most kind bs → r ≡ Some n → 4 * n ≤ most
few most kind bs r n p q = (subst (WordsFit most bs) (sym p ∙ q) (words_fit most kind bs)).0

-- the three records of words
pub record CountFacts (most : ℕ) (bs : List ℕ) (c : Counts) : Type 0 where
  pub few0 : 4 * c.n0 ≤ most
  pub few1 : 4 * c.n1 ≤ most
  pub few2 : 4 * c.n2 ≤ most
  pub there : words_end c ≤ length bs

abbrev CountsFit : ℕ → List ℕ → Result Counts BadRecord → Type 0
CountsFit most bs (Ok c) = CountFacts most bs c
CountsFit most bs (Err e) = e.at ≤ 2 * (head_bytes + most)

fit_second : (most : ℕ) (bs : List ℕ) (n0 n1 : ℕ) (r : Option ℕ) → 4 * n0 ≤ most → 4 * n1 ≤ most →
    WordsFit most (drop (past (past 0 n0) n1) bs) r → CountsFit most bs (after_second n0 n1 (past (past 0 n0) n1) r)
fit_second most bs n0 n1 (Some n2) h0 h1 f =
    let g = f.1 in
    let d = length-drop (past (past 0 n0) n1) bs in
    record { few0 = h0; few1 = h1; few2 = f.0; there = omega arith }
fit_second most bs n0 n1 None h0 h1 f = omega arith

fit_first : (most : ℕ) (bs : List ℕ) (n0 : ℕ) (r : Option ℕ) → 4 * n0 ≤ most → WordsFit most (drop (past 0 n0) bs) r →
    CountsFit most bs (after_first most bs n0 (past 0 n0) r)
fit_first most bs n0 (Some n1) h0 f =
    let rest = drop (past (past 0 n0) n1) bs in
    fit_second most bs n0 n1 (words_record_of most (words_kind 2) rest) h0 f.0 (words_fit most (words_kind 2) rest)
fit_first most bs n0 None h0 f = omega arith

fit_start : (most : ℕ) (bs : List ℕ) (r : Option ℕ) → WordsFit most bs r → CountsFit most bs (from_start most bs r)
fit_start most bs (Some n0) f =
    let rest = drop (past 0 n0) bs in
    fit_first most bs n0 (words_record_of most (words_kind 1) rest) f.0 (words_fit most (words_kind 1) rest)
fit_start most bs None f = omega arith

counts_fit : (most : ℕ) (bs : List ℕ) → CountsFit most bs (counts_of most bs)
unfolding counts_of
counts_fit most bs = fit_start most bs (words_record_of most (words_kind 0) bs) (words_fit most (words_kind 0) bs)

pub count_facts : (most : ℕ) (bs : List ℕ) (c : Counts) → counts_of most bs ≡ Ok c → CountFacts most bs c
count_facts most bs c e = subst (CountsFit most bs) e (counts_fit most bs)

-- a bad record starts within reach
pub count_near : (most : ℕ) (bs : List ℕ) (n : ℕ) → counts_of most bs ≡ Err (bad n) → n ≤ 2 * (head_bytes + most)
count_near most bs n e = subst (CountsFit most bs) e (counts_fit most bs)
