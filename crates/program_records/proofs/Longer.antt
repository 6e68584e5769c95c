-- An input with more behind it: a record that would end before is read alike.
use Prim.Native.Nat.{ℕ, zero, suc, ◌+◌, ◌*◌, ◌≤◌, ◌<◌}
use mathlib.Core.Path.{◌≡◌, refl, ap}
use mathlib.Core.Bool.{Bool, true, false, cond}
use mathlib.Core.List.{List, [], ◌∷◌, ◌++◌}
use native.Mathlib.Omega.{arith}
use lib.Dec.{leb, eqb}
use lib.ListN.{length, drop, length-drop, length-append}
use lib.Seq.{drop-append-le}
use borrow.Author.Tests.{le-leb, leb-true, ne_eqb}
use Rattle.std.specs.Prelude.{Option, Some, None, Result, Ok, Err}
use Rattle.bits.specs.Bytes.{le}
use Rattle.machine.specs.Sizes.{budget_most, word_most}
use Rattle.format.specs.Format.{head_bytes}
use Rattle.run_order.specs.declared.cursor.Cursor.{Cursor}
use Rattle.program_records.specs.declared.counts.Counts.{Counts}
use Rattle.program_records.specs.declared.script.Script.{Script}
use Rattle.program_records.specs.declared.resume_script.ResumeScript.{ResumeScript}
use Rattle.program_records.specs.declared.head.BadRecord.{BadRecord}
use Rattle.program_records.specs.Head.{words_kind, budget_kind, cursor_kind, body_length, record_kind, body_of, same_body, has_body}
use Rattle.program_records.specs.Counts.{in_words, words_record_of, past, after_second, after_first, from_start, counts_of, words_end}
use Rattle.program_records.specs.Fixed.{budget_bytes, cursor_bytes, budget_record_of, cursor_record_of}
use Rattle.program_records.specs.Script.{after_budget, after_words, body_most, script_most, script_of}
use Rattle.program_records.specs.ResumeScript.{after_place, after_any_budget, after_streams, stream_bytes, resume_script_most, resume_script_of}
use Rattle.program_records.proofs.Fits.{few, count_facts}

module _ (more : List ℕ) where
  le_longer : (w : ℕ) (l : List ℕ) → w ≤ length l → le w (l ++ more) ≡ le w l
  unfolding le
  le_longer zero l h = refl
  le_longer (suc w) [] h = absurd (omega arith)
  le_longer (suc w) (b ∷ l) h = ap (λ (x : ℕ). b + 256 * x) (le_longer w l (omega arith))

  le_at : (w k : ℕ) (l : List ℕ) → k + w ≤ length l → le w (drop k (l ++ more)) ≡ le w (drop k l)
  le_at w k l h =
      let d = length-drop k l in
      rw (drop-append-le k l more (omega arith)) (le_longer w (drop k l) (omega arith))

  longer : (l : List ℕ) → length l ≤ length (l ++ more)
  longer l = let e = length-append l more in omega arith

  body_longer : (kind most : ℕ) (l : List ℕ) → head_bytes + most ≤ length l → body_of kind most (l ++ more) ≡ body_of kind most l
  unfolding body_of
  body_longer kind most l h =
      let m = longer l in
      let head : leb head_bytes (length l) ≡ true = le-leb head_bytes (length l) (omega arith) in
      let also : leb head_bytes (length (l ++ more)) ≡ true = le-leb head_bytes (length (l ++ more)) (omega arith) in
      rw (head, also, le_longer 4 l (omega arith), le_at 2 4 l (omega arith))
      (ap (λ (b : Option ℕ). cond (eqb (record_kind l) kind) b None) (go (leb (body_length l) most) refl))
    where
      go : (b : Bool) → leb (body_length l) most ≡ b →
          cond b (cond (leb (head_bytes + body_length l) (length (l ++ more))) (Some (body_length l)) None) None ≡
          cond b (cond (leb (head_bytes + body_length l) (length l)) (Some (body_length l)) None) None
      go true e =
          let f = leb-true (body_length l) most e in
          let m = longer l in
          rw (le-leb (head_bytes + body_length l) (length l) (omega arith), le-leb (head_bytes + body_length l) (length (l ++ more)) (omega arith))
      go false e = refl

  body_at : (kind most at : ℕ) (l : List ℕ) → at + (head_bytes + most) ≤ length l → body_of kind most (drop at (l ++ more)) ≡ body_of kind most (drop at l)
  body_at kind most at l h =
      let d = length-drop at l in
      rw (drop-append-le at l more (omega arith)) (body_longer kind most (drop at l) (omega arith))

  words_at_lem : (most kind at : ℕ) (l : List ℕ) → at + (head_bytes + most) ≤ length l →
      words_record_of most kind (drop at (l ++ more)) ≡ words_record_of most kind (drop at l)
  unfolding words_record_of
  words_at_lem most kind at l h = ap in_words (body_at kind most at l h)

  has_at : (kind n at : ℕ) (l : List ℕ) → at + (head_bytes + n) ≤ length l → has_body kind n (drop at (l ++ more)) ≡ has_body kind n (drop at l)
  unfolding has_body
  has_at kind n at l h = ap (same_body n) (body_at kind n at l h)

  number_at : (at k : ℕ) (l : List ℕ) → at + (k + 4) ≤ length l → le 4 (drop k (drop at (l ++ more))) ≡ le 4 (drop k (drop at l))
  number_at at k l h =
      let d = length-drop at l in
      rw (drop-append-le at l more (omega arith)) (le_at 4 k (drop at l) (omega arith))

  pub budget_at : (most at : ℕ) (l : List ℕ) → at + budget_bytes ≤ length l → budget_record_of most (drop at (l ++ more)) ≡ budget_record_of most (drop at l)
  unfolding budget_record_of
  budget_at most at l h = rw (has_at budget_kind 4 at l (omega arith), number_at at head_bytes l (omega arith))

  pub cursor_at : (at : ℕ) (l : List ℕ) → at + cursor_bytes ≤ length l → cursor_record_of (drop at (l ++ more)) ≡ cursor_record_of (drop at l)
  unfolding cursor_record_of
  cursor_at at l h =
      let first = number_at at head_bytes l (omega arith) in
      let second = number_at at (head_bytes + 4) l (omega arith) in
      let third = number_at at (head_bytes + 8) l (omega arith) in
      rw (has_at cursor_kind 16 at l (omega arith), first, second, third, number_at at (head_bytes + 12) l (omega arith))

  module _ (most : ℕ) (l : List ℕ) (room : 3 * (head_bytes + most) ≤ length l) where
    first_longer : (n0 : ℕ) → 4 * n0 ≤ most → (r : Option ℕ) → r ≡ words_record_of most (words_kind 1) (drop (past 0 n0) l) →
        after_first most (l ++ more) n0 (past 0 n0) r ≡ after_first most l n0 (past 0 n0) r
    first_longer n0 h (Some n1) e =
        let f = few most (words_kind 1) (drop (past 0 n0) l) (Some n1) n1 e refl in
        ap (after_second n0 n1 (past (past 0 n0) n1)) (words_at_lem most (words_kind 2) (past (past 0 n0) n1) l (omega arith))
    first_longer n0 h None e = refl

    start_longer : (r : Option ℕ) → r ≡ words_record_of most (words_kind 0) l → from_start most (l ++ more) r ≡ from_start most l r
    start_longer (Some n0) e =
        let f = few most (words_kind 0) l (Some n0) n0 e refl in
        rw (words_at_lem most (words_kind 1) (past 0 n0) l (omega arith))
        (first_longer n0 f (words_record_of most (words_kind 1) (drop (past 0 n0) l)) refl)
    start_longer None e = refl

    pub counts_longer : counts_of most (l ++ more) ≡ counts_of most l
    unfolding counts_of words_record_of
    counts_longer = rw (body_longer (words_kind 0) most l (omega arith)) (start_longer (words_record_of most (words_kind 0) l) refl)

  not_end : (l : List ℕ) (n : ℕ) → n < length l → eqb (length (l ++ more)) n ≡ false
  not_end l n h = let m = longer l in ne_eqb (length (l ++ more)) n (λ e. absurd (omega arith))

-- an input that is not sound, whatever stands behind it
abbrev pub Bad : Result Script BadRecord → Type 0
Bad (Ok s) = ⊥
Bad (Err e) = Unit

module _ (l more : List ℕ) (long : length l ≡ script_most + 1) where
  ends : (c : Counts) (r : Option ℕ) → words_end c + budget_bytes < length l →
      (after_budget (l ++ more) c (words_end c) r ≡ after_budget l c (words_end c) r) × Bad (after_budget l c (words_end c) r)
  ends c (Some b) h =
      let n = words_end c + budget_bytes in
      let e : eqb (length l) n ≡ false = ne_eqb (length l) n (λ x. absurd (omega arith)) in
      rw (not_end more l n h, e) (refl, tt)
  ends c None h = (refl, tt)

  after_longer : (r : Result Counts BadRecord) → counts_of body_most l ≡ r → (after_words (l ++ more) r ≡ after_words l r) × Bad (after_words l r)
  after_longer (Ok c) e =
      let f = count_facts body_most l c e in
      let f0 = f.few0 in
      let f1 = f.few1 in
      let f2 = f.few2 in
      rw (budget_at more budget_most (words_end c) l (omega arith))
      (ends c (budget_record_of budget_most (drop (words_end c) l)) (omega arith))
  after_longer (Err x) e = (refl, tt)

  pub script_longer : (script_of (l ++ more) ≡ script_of l) × Bad (script_of l)
  unfolding script_of
  script_longer = rw (counts_longer more body_most l (omega arith)) (after_longer (counts_of body_most l) refl)

-- the same of `resume`
abbrev pub Unsound : Result ResumeScript BadRecord → Type 0
Unsound (Ok s) = ⊥
Unsound (Err e) = Unit

module _ (l more : List ℕ) (long : length l ≡ resume_script_most + 1) where
  place_ends : (c : Counts) (b at : ℕ) (r : Option Cursor) → at + cursor_bytes < length l →
      (after_place (l ++ more) c b at r ≡ after_place l c b at r) × Unsound (after_place l c b at r)
  place_ends c b at (Some p) h =
      let e : eqb (length l) (at + cursor_bytes) ≡ false = ne_eqb (length l) (at + cursor_bytes) (λ x. absurd (omega arith)) in
      rw (not_end more l (at + cursor_bytes) (omega arith), e) (refl, tt)
  place_ends c b at None h = (refl, tt)

  budget_ends : (c : Counts) (r : Option ℕ) → words_end c + budget_bytes + cursor_bytes < length l →
      (after_any_budget (l ++ more) c (words_end c) r ≡ after_any_budget l c (words_end c) r) × Unsound (after_any_budget l c (words_end c) r)
  budget_ends c (Some b) h =
      let at = words_end c + budget_bytes in
      rw (cursor_at more at l (omega arith)) (place_ends c b at (cursor_record_of (drop at l)) h)
  budget_ends c None h = (refl, tt)

  streams_longer : (r : Result Counts BadRecord) → counts_of stream_bytes l ≡ r → (after_streams (l ++ more) r ≡ after_streams l r) × Unsound (after_streams l r)
  streams_longer (Ok c) e =
      let f = count_facts stream_bytes l c e in
      let f0 = f.few0 in
      let f1 = f.few1 in
      let f2 = f.few2 in
      rw (budget_at more word_most (words_end c) l (omega arith))
      (budget_ends c (budget_record_of word_most (drop (words_end c) l)) (omega arith))
  streams_longer (Err x) e = (refl, tt)

  pub resume_longer : (resume_script_of (l ++ more) ≡ resume_script_of l) × Unsound (resume_script_of l)
  unfolding resume_script_of
  resume_longer = rw (counts_longer more stream_bytes l (omega arith)) (streams_longer (counts_of stream_bytes l) refl)
