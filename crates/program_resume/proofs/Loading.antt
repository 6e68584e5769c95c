-- What is printed, by what came of loading the image and of reading the records.
use Rattle.std.specs.Prelude.{Result, Ok, Err}
use Prim.Native.Nat.{ℕ}
use mathlib.Core.Path.{◌≡◌, refl, sym, ap, ◌∙◌}
use mathlib.Core.Bool.{Bool, true, false, cond}
use mathlib.Core.List.{List, [], ◌∷◌}
use native.Mathlib.Omega.{arith}
use Rattle.bits.specs.Bytes.{Bytes}
use Rattle.bits.proofs.Choices.{and_left}
use Rattle.machine.specs.declared.refusal.Refusal.{Refusal}
use Rattle.machine.specs.declared.refusal.Refusal.TheVariants.{BadImage}
use Rattle.machine.specs.Numbers.{number_of, values_of}
use Rattle.machine.specs.Machine.{Machine}
use Rattle.machine.specs.Formed.{sized, formed, well_formed}
use Rattle.machine.specs.Fresh.{fresh_machine}
use Rattle.machine.proofs.FreshLaws.{fresh_formed}
use Rattle.machine.proofs.Refusals.{nine_means}
use Rattle.machine.specs.Answers.{Told, accepted, refused, refusal, told, Call, call}
use Rattle.run_order.specs.Cursor.{Streams}
use Rattle.run_rules.specs.Run.{run_of, summary_of}
use Rattle.format.specs.Format.{accepts}
use Rattle.image_layout.specs.Image.{image}
use Rattle.image.specs.Calls.{load_check, load_of}
use Rattle.image.proofs.Answers.{taken_means, load_answer, load_machine}
use Rattle.image.proofs.Trips.{round_trips}
use Rattle.program_records.specs.declared.resume_script.ResumeScript.{ResumeScript}
use Rattle.program_records.specs.Counts.{streams_of}
use Rattle.program_report.specs.Texts.{bad_image_text}
use Rattle.program_report.specs.Lines.{number_line}
use Rattle.program_resume.specs.Resume.{image_machine, image_good, image_fine, resume_run, records_of, printed_of}

-- the run, of streams that go by a name
pub named_run : (tail : List ℕ) (m : Machine) (s : ResumeScript) (w : Streams) → w ≡ streams_of tail s.counts →
    summary_of s.cursor (run_of w m s.cursor s.budget) ≡ resume_run tail m s
unfolding resume_run
named_run tail m s w e = rw e

-- an image that was not taken, into parts of the right sizes, is a bad one
bad_means : (fine : Bool) (g : ℕ) (r : Refusal) → ◌≡◌ {A = Told (Unit {0})} (cond fine (accepted tt) (refused 9 (g ∷ []))) (refusal r) →
    (fine ≡ false) × (r ≡ BadImage g)
bad_means true g r e = let z : ◌≡◌ {A = ℕ} 0 1 = cc in absurd (omega arith)
bad_means false g r e =
    let n : number_of r ≡ 9 = cc in
    let v : values_of r ≡ g ∷ [] = cc in
    (refl, nine_means r g n v)

fresh_sized : sized fresh_machine ≡ true
fresh_sized = and_left (sized fresh_machine) (formed fresh_machine) fresh_formed

module _ (came tail : List ℕ) (a : Result (Unit {0}) Refusal) (m : Machine) (e : call (told a) m ≡ load_of came fresh_machine) where
  answered : told a ≡ load_check (sized fresh_machine) came
  answered = ap (λ (x : Call Machine). x.answer) e ∙ load_answer came fresh_machine

  pub parts_bad : (r : Refusal) (n : ℕ) → ((at : ℕ) → r ≡ BadImage at → n ≡ at) → a ≡ Err r → number_line bad_image_text n ≡ printed_of came tail
  unfolding printed_of image_fine image_good load_check
  parts_bad r n f h =
      let whole : load_check true came ≡ refusal r = ap (λ (b : Bool). load_check b came) (sym fresh_sized) ∙ sym answered ∙ ap told h in
      let b = bad_means (accepts image came) (image.good came) r whole in
      rw (b.0, f (image.good came) b.1)

  fine : a ≡ Ok tt → load_check (sized fresh_machine) came ≡ accepted tt
  fine h = sym answered ∙ ap told h

  taken : a ≡ Ok tt → m ≡ image.get came
  taken h = ap (λ (x : Call Machine). x.after) e ∙ load_machine came fresh_machine (fine h)

  pub parts_taken : a ≡ Ok tt → records_of came tail m ≡ printed_of came tail
  unfolding printed_of image_fine image_machine
  parts_taken h =
      let accepts = (taken_means (sized fresh_machine) came (fine h)).1 in
      rw accepts (ap (λ (x : Machine). records_of came tail x) (taken h))

  pub loaded_formed : a ≡ Ok tt → Bytes came → well_formed m ≡ true
  loaded_formed h b =
      ap (λ (x : Call Machine). well_formed x.after) e
      ∙ round_trips.formed came fresh_machine b (load_answer came fresh_machine ∙ fine h)
