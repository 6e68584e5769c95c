-- M1 to M11: each word is decoded and done by computation, on any machine.
use Prim.Native.Nat.{ℕ, ◌+◌, ◌*◌, ◌%◌, ◌^◌, ◌≤◌, ◌<◌}
use mathlib.Core.Path.{◌≡◌, refl, ap, ◌∙◌}
use mathlib.Core.Bool.{Bool, true, false, ◌&&◌}
use mathlib.Core.List.{List, [], ◌∷◌}
use native.Mathlib.Omega.{arith}
use lib.ListN.{length, set}
use borrow.Author.Tests.{le-leb}
use Rattle.bits.specs.Field.{field, with_byte, with_low}
use Rattle.bits.specs.Overwrite.{over}
use Rattle.machine.specs.Formed.{well_formed}
use Rattle.machine.specs.Sizes.{config_count, dest_count, mark_count, thread_gprs, bank_words}
use Rattle.machine.specs.Machine.{Machine, Dest}
use Rattle.machine.specs.Units.{gpr, half_register}
use Rattle.machine.specs.Answers.{accepted, refused}
use Rattle.machine.specs.Answers as answers
use Rattle.dest.proofs.Examples.{worked}
use Rattle.word_rules.specs.declared.instruction.Operand.TheVariants.{Constant, Register}
use Rattle.word_rules.specs.declared.instruction.ScalarWord.{ScalarWord}
use Rattle.word_rules.specs.declared.instruction.ScalarWord.TheVariants.{SetDmaReg, AddDmaReg, MulDmaReg}
use Rattle.word_rules.specs.declared.instruction.ConfigWord.{ConfigWord}
use Rattle.word_rules.specs.declared.instruction.ConfigWord.TheVariants.{WrCfg, RmwCib}
use Rattle.word_rules.specs.declared.instruction.Instruction.TheVariants.{Scalar, Config}
use Rattle.word_rules.specs.Table.{decode_of}
use Rattle.word_rules.proofs.Examples.{low_half_of_four, add_constant, multiply_registers, second_byte, last_index, past_last_index, four_words}
use Rattle.word_rules.specs.After.{control_after}
use Rattle.word_rules.specs.ConfigWords.{bank_of, config_after, config_settings, with_merged}
use Rattle.word_rules.specs.ScalarWords.{scalar_after}
use Rattle.bits.specs.Copies.{copied}
use Rattle.step_rules.specs.Step.{Step, machine_after, stepped, step_of}
use Rattle.expander_rules.specs.declared.Carried.{Carried}
use Rattle.expander_rules.specs.Stream.{any_template1, any_word, any_replay, Emission, emission, stream_of}
use Rattle.expander_rules.specs.Replay.{is_loading}
use Rattle.expander_rules.specs.State.{carry, fresh_carried, load_formed}
use Rattle.expander_rules.specs.Call.{expanding, expansion, right_lengths, over_rounds, bad_rounds, enough_room, done_with, expand_of}
use Rattle.expander_rules.specs.Promises.{mop_check, mop_call_of}
use Rattle.expander_rules.proofs.Examples.{examples}
use Rattle.expander_rules.proofs.Plain.{stream_plain}
use Rattle.expander_rules.proofs.Whole.{plain_streams}
use Rattle.bench_dest.specs.DestRows.{bank_check, read_row32_of}
use Rattle.acceptance.specs.Worked.{Unstalled, Worked, leaves, leaves_gprs, leaves_config, place, gpr_in, word_place, word_in}
use Rattle.acceptance.proofs.Passing.{refusing, scalar_passes, config_passes}

does_scalar : (m : Machine) (t w : ℕ) (s : ScalarWord) → Unstalled 5 m t → decode_of w ≡ accepted (Scalar s) →
    step_of m t w ≡ leaves m t (scalar_after s t m.kept)
unfolding machine_after control_after
does_scalar m t w s r d = scalar_passes m t w s r d

-- of the config words SETC16 alone writes a setting
does_config : (m : Machine) (t w : ℕ) (x : ConfigWord) → Unstalled 7 m t → decode_of w ≡ accepted (Config x) →
    config_settings x t m.settings ≡ m.settings → step_of m t w ≡ leaves m t (config_after x t (bank_of m.settings t) m.kept)
unfolding machine_after control_after
does_config m t w x r d e = config_passes m t w x r d ∙ rw e

sets_half : (m : Machine) (t : ℕ) → Unstalled 5 m t → step_of m t 0x45123408 ≡ leaves_gprs m t (set m.kept.gprs (place t 4) (with_low 0x1234 (gpr_in m t 4)))
unfolding scalar_after
sets_half m t r = does_scalar m t 0x45123408 (SetDmaReg (half_register 8) 0x1234) r low_half_of_four

adds : (m : Machine) (t : ℕ) → Unstalled 5 m t → gpr_in m t 4 ≡ 0xFFFFFFFF → step_of m t 0x58805044 ≡ leaves_gprs m t (set m.kept.gprs (place t 5) 0)
unfolding scalar_after
adds m t r e =
    does_scalar m t 0x58805044 (AddDmaReg (gpr 5) (gpr 4) (Constant 1)) r add_constant
    ∙ ap (λ (x : ℕ). leaves_gprs m t (set m.kept.gprs (place t 5) ((x + 1) % 2 ^ 32))) e

multiplies : (m : Machine) (t : ℕ) → Unstalled 5 m t → gpr_in m t 4 ≡ 0x00010003 → gpr_in m t 5 ≡ 0xFFFF →
    step_of m t 0x5A006144 ≡ leaves_gprs m t (set m.kept.gprs (place t 6) 196605)
unfolding scalar_after
multiplies m t r e f =
    let left : ℕ → Step = λ (x : ℕ). leaves_gprs m t (set m.kept.gprs (place t 6) (field 0 16 x * field 0 16 (gpr_in m t 5))) in
    let right : ℕ → Step = λ (x : ℕ). leaves_gprs m t (set m.kept.gprs (place t 6) (field 0 16 0x00010003 * field 0 16 x)) in
    does_scalar m t 0x5A006144 (MulDmaReg (gpr 6) (gpr 4) (Register (gpr 5))) r multiply_registers ∙ ap left e ∙ ap right f

merges : (m : Machine) (t : ℕ) → Unstalled 7 m t → word_in m t 10 ≡ 0x11223344 → step_of m t 0xB4F0AB0A ≡ leaves_config m t (set m.kept.config (word_place m t 10) 0x1122A344)
unfolding config_after config_settings with_byte
merges m t r e =
    does_config m t 0xB4F0AB0A (RmwCib 1 0xF0 0xAB 10) r second_byte refl
    ∙ ap (λ (x : ℕ). leaves_config m t (set m.kept.config (word_place m t 10) (with_merged 1 0xF0 0xAB x))) e

last_word : (m : Machine) (t : ℕ) → Unstalled 7 m t → step_of m t 0xB00000FF ≡ leaves_config m t (set m.kept.config (word_place m t 255) (gpr_in m t 0))
unfolding config_after config_settings
last_word m t r = does_config m t 0xB00000FF (WrCfg (gpr 0) false 255) r last_index refl

past_last : (m : Machine) (t : ℕ) → well_formed m ≡ true → t < 3 → step_of m t 0xB0000100 ≡ stepped (refused 3 []) m
past_last m t e h = refusing m t 0xB0000100 3 [] e h past_last_index

copies_four : (m : Machine) (t : ℕ) → Unstalled 7 m t →
    step_of m t 0xB0078009 ≡
    leaves_config m t
    (set (set (set (set m.kept.config (word_place m t 8) (gpr_in m t 4)) (word_place m t 9) (gpr_in m t 5)) (word_place m t 10) (gpr_in m t 6)) (word_place m t 11) (gpr_in m t 7))
unfolding config_after config_settings copied
copies_four m t r =
    let done = does_config m t 0xB0078009 (WrCfg (gpr 7) true 9) r four_words refl in
    let g = t * thread_gprs in
    let b = bank_of m.settings t * bank_words in
    rw (second g 4, third g 4, fourth g 4, second b 8, third b 8, fourth b 8) done
  where
    second : (a n : ℕ) → a + (n + 1) ≡ a + n + 1
    second a n = omega arith

    third : (a n : ℕ) → a + (n + 2) ≡ a + n + 1 + 1
    third a n = omega arith

    fourth : (a n : ℕ) → a + (n + 3) ≡ a + n + 1 + 1 + 1
    fourth a n = omega arith

-- a call without a REPLAY whose lengths and rounds are in order and whose output has room
expanded : (m : List ℕ) (c : Carried) (l out : List ℕ) (e : Emission) → stream_of m c.high_mask l ≡ e → any_replay m ≡ false → any_replay l ≡ false →
    load_formed c.load ≡ true → is_loading c.load ≡ false → right_lengths m l ≡ true → bad_rounds m l ≡ false → enough_room out (length e.words) ≡ true →
    expand_of m c l out ≡ done_with (expansion e.words (carry e.high c.slots c.load)) out
unfolding mop_call_of mop_check
expanded m c l out e s n k f off p q r = plain_streams m c l out off (stream_plain m n c.high_mask l k) ∙ rw (p, f, q, s, r)

room : (out : List ℕ) (n : ℕ) → n ≤ length out → n ≤ 65536 → enough_room out n ≡ true
room out n h k = rw (le-leb n (length out) h, le-leb n 65536 k)

mask_alone : any_replay (0x01020002 ∷ []) ≡ false
unfolding any_word
mask_alone = refl

rounds_alone : any_replay (0x01800000 ∷ []) ≡ false
unfolding any_word
rounds_alone = refl

-- a template 0 MOP has no rounds to be over
none_here : (over : Bool) → (over && any_template1 (0x01020002 ∷ [])) ≡ false
unfolding any_word
none_here true = refl
none_here false = refl

mask_template : (m0 m2 m3 m4 m5 m6 m7 m8 : ℕ) (out : List ℕ) → 6 ≤ length out →
    any_replay (m0 ∷ 1 ∷ m2 ∷ m3 ∷ m4 ∷ m5 ∷ m6 ∷ m7 ∷ m8 ∷ []) ≡ false →
    expand_of (m0 ∷ 1 ∷ m2 ∷ m3 ∷ m4 ∷ m5 ∷ m6 ∷ m7 ∷ m8 ∷ []) fresh_carried (0x01020002 ∷ []) out ≡
    expanding (accepted 6) fresh_carried (over out 0 (m3 ∷ m2 ∷ m7 ∷ m8 ∷ m3 ∷ m2 ∷ []))
mask_template m0 m2 m3 m4 m5 m6 m7 m8 out h n =
    expanded (m0 ∷ 1 ∷ m2 ∷ m3 ∷ m4 ∷ m5 ∷ m6 ∷ m7 ∷ m8 ∷ []) fresh_carried (0x01020002 ∷ []) out (emission (m3 ∷ m2 ∷ m7 ∷ m8 ∷ m3 ∷ m2 ∷ []) 0)
    (examples.m10 m0 m2 m3 m4 m5 m6 m7 m8) n mask_alone refl refl refl (none_here (over_rounds (m0 ∷ 1 ∷ m2 ∷ m3 ∷ m4 ∷ m5 ∷ m6 ∷ m7 ∷ m8 ∷ []))) (room out 6 h (omega arith))

round_template : (m2 m3 m4 m5 m6 m7 m8 : ℕ) (c : Carried) (out : List ℕ) → 14 ≤ length out →
    load_formed c.load ≡ true → is_loading c.load ≡ false →
    any_replay (2 ∷ 2 ∷ m2 ∷ m3 ∷ m4 ∷ m5 ∷ m6 ∷ m7 ∷ m8 ∷ []) ≡ false →
    expand_of (2 ∷ 2 ∷ m2 ∷ m3 ∷ m4 ∷ m5 ∷ m6 ∷ m7 ∷ m8 ∷ []) c (0x01800000 ∷ []) out ≡
    expanding (accepted 14) c (over out 0 (m2 ∷ m5 ∷ m6 ∷ m5 ∷ m8 ∷ m3 ∷ m4 ∷ m2 ∷ m5 ∷ m6 ∷ m5 ∷ m7 ∷ m3 ∷ m4 ∷ []))
round_template m2 m3 m4 m5 m6 m7 m8 c out h f off n =
    expanded (2 ∷ 2 ∷ m2 ∷ m3 ∷ m4 ∷ m5 ∷ m6 ∷ m7 ∷ m8 ∷ []) c (0x01800000 ∷ []) out (emission (m2 ∷ m5 ∷ m6 ∷ m5 ∷ m8 ∷ m3 ∷ m4 ∷ m2 ∷ m5 ∷ m6 ∷ m5 ∷ m7 ∷ m3 ∷ m4 ∷ []) c.high_mask)
    (examples.m11 m2 m3 m4 m5 m6 m7 m8 c.high_mask) n rounds_alone f off refl refl (room out 14 h (omega arith))

past_view : (config : List ℕ) (s : Dest) (bank : ℕ) (out : List ℕ) →
    length config ≡ config_count → length s.cells ≡ dest_count → length s.marks ≡ mark_count → bank ≤ 1 →
    read_row32_of config s bank 512 out ≡ answers.call (refused 11 []) out
unfolding read_row32_of bank_check
past_view config s bank out p q r h = rw (p, q, r, le-leb bank 1 h)

pub all_worked : Worked
all_worked = record { m1 = sets_half; m2 = adds; m3 = multiplies; m4 = merges; m5_passes = last_word; m5_refused = past_last; m6 = copies_four; dest = worked; m8_refused = past_view; m10 = mask_template; m11 = round_template }
