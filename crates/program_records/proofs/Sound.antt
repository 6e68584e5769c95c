-- What the records of a sound input have: the counts of their words.
use Prim.Native.Nat.{ℕ, ◌+◌, ◌≤◌}
use mathlib.Core.Path.{◌≡◌, refl, subst}
use mathlib.Core.List.{List}
use native.Mathlib.Omega.{arith}
use lib.Dec.{eqb}
use lib.ListN.{length, drop}
use Rattle.std.specs.Prelude.{Option, Some, None, Result, Ok, Err}
use Rattle.bits.proofs.Choices.{cond_both}
use Rattle.machine.specs.Sizes.{budget_most, word_most}
use Rattle.format.specs.Places.{place_most}
use Rattle.run_order.specs.declared.cursor.Cursor.{Cursor}
use Rattle.program_records.specs.declared.counts.Counts.{Counts}
use Rattle.program_records.specs.declared.script.Script.{Script}
use Rattle.program_records.specs.declared.resume_script.ResumeScript.{ResumeScript}
use Rattle.program_records.specs.declared.head.BadRecord.{BadRecord}
use Rattle.program_records.specs.Head.{bad}
use Rattle.program_records.specs.Counts.{counts_of, words_end}
use Rattle.program_records.specs.Fixed.{budget_bytes, cursor_bytes, budget_record_of, cursor_record_of}
use Rattle.program_records.specs.Script.{after_budget, after_words, body_most, script_of}
use Rattle.program_records.specs.ResumeScript.{after_place, after_any_budget, after_streams, stream_bytes, resume_script_of}
use Rattle.program_records.proofs.Fits.{CountFacts, count_facts, count_near}

-- the counts that were read are the script's
abbrev Has : Counts → Result Script BadRecord → Type 0
Has c (Ok s) = c ≡ s.counts
Has c (Err e) = Unit

has_budget : (bs : List ℕ) (c : Counts) (at : ℕ) (r : Option ℕ) → Has c (after_budget bs c at r)
has_budget bs c at (Some b) = cond_both (Has c) (eqb (length bs) (at + budget_bytes)) refl tt
has_budget bs c at None = tt

sound_of : (bs : List ℕ) (r : Result Counts BadRecord) (s : Script) → counts_of body_most bs ≡ r → after_words bs r ≡ Ok s →
    CountFacts body_most bs s.counts
sound_of bs (Ok c) s p e =
    let h : c ≡ s.counts = subst (Has c) e (has_budget bs c (words_end c) (budget_record_of budget_most (drop (words_end c) bs))) in
    subst (CountFacts body_most bs) h (count_facts body_most bs c p)
sound_of bs (Err x) s p e = let z : ◌≡◌ {A = ℕ} 0 1 = cc in absurd (omega arith)

pub sound_facts : (bs : List ℕ) (s : Script) → script_of bs ≡ Ok s → CountFacts body_most bs s.counts
unfolding script_of
sound_facts bs s e = sound_of bs (counts_of body_most bs) s refl e

-- the same of `resume`
abbrev Holds : Counts → Result ResumeScript BadRecord → Type 0
Holds c (Ok s) = c ≡ s.counts
Holds c (Err e) = e.at ≤ words_end c + budget_bytes + cursor_bytes

holds_place : (bs : List ℕ) (c : Counts) (b : ℕ) (r : Option Cursor) → Holds c (after_place bs c b (words_end c + budget_bytes) r)
holds_place bs c b (Some p) = cond_both (Holds c) (eqb (length bs) (words_end c + budget_bytes + cursor_bytes)) refl (omega arith)
holds_place bs c b None = omega arith

holds_budget : (bs : List ℕ) (c : Counts) (r : Option ℕ) → Holds c (after_any_budget bs c (words_end c) r)
holds_budget bs c (Some b) = holds_place bs c b (cursor_record_of (drop (words_end c + budget_bytes) bs))
holds_budget bs c None = omega arith

whole_of : (bs : List ℕ) (r : Result Counts BadRecord) (s : ResumeScript) → counts_of stream_bytes bs ≡ r → after_streams bs r ≡ Ok s →
    CountFacts stream_bytes bs s.counts
whole_of bs (Ok c) s p e =
    let h : c ≡ s.counts = subst (Holds c) e (holds_budget bs c (budget_record_of word_most (drop (words_end c) bs))) in
    subst (CountFacts stream_bytes bs) h (count_facts stream_bytes bs c p)
whole_of bs (Err x) s p e = let z : ◌≡◌ {A = ℕ} 0 1 = cc in absurd (omega arith)

pub whole_facts : (bs : List ℕ) (s : ResumeScript) → resume_script_of bs ≡ Ok s → CountFacts stream_bytes bs s.counts
unfolding resume_script_of
whole_facts bs s e = whole_of bs (counts_of stream_bytes bs) s refl e

-- and where they are bad, that is within reach
near_of : (bs : List ℕ) (r : Result Counts BadRecord) (n : ℕ) → counts_of stream_bytes bs ≡ r → after_streams bs r ≡ Err (bad n) → n ≤ place_most
near_of bs (Ok c) n p e =
    let h : n ≤ words_end c + budget_bytes + cursor_bytes = subst (Holds c) e (holds_budget bs c (budget_record_of word_most (drop (words_end c) bs))) in
    let f = count_facts stream_bytes bs c p in
    omega arith
near_of bs (Err x) n p e =
    let h : x.at ≡ n = cc in
    let g = count_near stream_bytes bs x.at p in
    omega arith

pub faulty_near : (bs : List ℕ) (n : ℕ) → resume_script_of bs ≡ Err (bad n) → n ≤ place_most
unfolding resume_script_of
faulty_near bs n e = near_of bs (counts_of stream_bytes bs) n refl e
