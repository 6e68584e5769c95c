-- Document 01's worked examples M1 to M11, over the definitions that the contracts cite.
use Rattle.std.specs.Prelude.{ℕ, ◌<◌, ◌≤◌, ◌≡◌, true, false, ◌&&◌, List, [], ◌∷◌, length, set, get_or}
use Rattle.bits.specs.Field.{flag, with_low}
use Rattle.bits.specs.Overwrite.{over}
use Rattle.machine.specs.Control.{wait_of}
use Rattle.machine.specs.Formed.{well_formed}
use Rattle.machine.specs.Machine.{Machine, Dest, Stores, machine_with, with_gprs, with_config}
use Rattle.machine.specs.Sizes.{config_count, dest_count, mark_count, thread_count}
use Rattle.machine.specs.Units.{gpr, gpr_place}
use Rattle.machine.specs.Answers.{accepted, refused, call}
use Rattle.machine.specs.Outcomes.{passed}
use Rattle.dest.specs.Examples.{DestExamples}
use Rattle.word_rules.specs.Waits.{wait_block, holds_now}
use Rattle.word_rules.specs.After.{drop_lifted}
use Rattle.machine.specs.Places.{config_place}
use Rattle.word_rules.specs.ConfigWords.{bank_of}
use Rattle.step_rules.specs.Step.{Step, stepped, step_of}
use Rattle.expander_rules.specs.declared.Carried.{Carried}
use Rattle.expander_rules.specs.Stream.{any_replay}
use Rattle.expander_rules.specs.Replay.{is_loading}
use Rattle.expander_rules.specs.State.{fresh_carried, load_formed}
use Rattle.expander_rules.specs.Call.{expanding, expand_of}
use Rattle.bench_dest.specs.DestRows.{read_row32_of}

-- a well-formed machine, one of its threads, and no wait of that thread that stalls words of block bit b
pub record Unstalled (b : ℕ) (m : Machine) (t : ℕ) : Type 0 where
  pub formed : well_formed m ≡ true
  pub thread : t < thread_count
  pub unstalled : (flag b (wait_block (wait_of m.control t)) && holds_now m.control (wait_of m.control t)) ≡ false

-- thread t's GPR n, and where it stands
abbrev pub place : ℕ → ℕ → ℕ
place t n = gpr_place t (gpr n)

abbrev pub gpr_in : Machine → ℕ → ℕ → ℕ
gpr_in m t n = get_or m.kept.gprs (place t n) 0

-- word n of thread t's Config bank, and where it stands
abbrev pub word_place : Machine → ℕ → ℕ → ℕ
word_place m t n = config_place (bank_of m.settings t) n

abbrev pub word_in : Machine → ℕ → ℕ → ℕ
word_in m t n = get_or m.kept.config (word_place m t n) 0

-- a passed word that leaves the settings and, of the control part, all but its thread's wait, which is dropped if it has been lifted
abbrev pub leaves : Machine → ℕ → Stores → Step
leaves m t k = stepped (accepted passed) (machine_with (drop_lifted m.control t (wait_of m.control t)) m.settings k)

-- and, of the stores, all but the GPRs
abbrev pub leaves_gprs : Machine → ℕ → List ℕ → Step
leaves_gprs m t g = leaves m t (with_gprs m.kept g)

-- or all but Config
abbrev pub leaves_config : Machine → ℕ → List ℕ → Step
leaves_config m t c = leaves m t (with_config m.kept c)

pub record Worked : Type 0 where
  -- 0x45123408 sets GPR 4's low half to 0x1234
  pub m1 : (m : Machine) (t : ℕ) → Unstalled 5 m t →
      step_of m t 0x45123408 ≡ leaves_gprs m t (set m.kept.gprs (place t 4) (with_low 0x1234 (gpr_in m t 4)))
  -- 0x58805044, GPR 4 all ones: GPR 5 is 0
  pub m2 : (m : Machine) (t : ℕ) → Unstalled 5 m t → gpr_in m t 4 ≡ 0xFFFFFFFF →
      step_of m t 0x58805044 ≡ leaves_gprs m t (set m.kept.gprs (place t 5) 0)
  -- 0x5A006144, GPRs 4 and 5 0x00010003 and 0xFFFF: GPR 6 is 196,605
  pub m3 : (m : Machine) (t : ℕ) → Unstalled 5 m t → gpr_in m t 4 ≡ 0x00010003 → gpr_in m t 5 ≡ 0xFFFF →
      step_of m t 0x5A006144 ≡ leaves_gprs m t (set m.kept.gprs (place t 6) 196605)
  -- 0xB4F0AB0A, old 0x11223344: 0x1122A344
  pub m4 : (m : Machine) (t : ℕ) → Unstalled 7 m t → word_in m t 10 ≡ 0x11223344 →
      step_of m t 0xB4F0AB0A ≡ leaves_config m t (set m.kept.config (word_place m t 10) 0x1122A344)
  -- 0xB00000FF passes
  pub m5_passes : (m : Machine) (t : ℕ) → Unstalled 7 m t →
      step_of m t 0xB00000FF ≡ leaves_config m t (set m.kept.config (word_place m t 255) (gpr_in m t 0))
  -- 0xB0000100 is 3, whatever the thread waits for
  pub m5_refused : (m : Machine) (t : ℕ) → well_formed m ≡ true → t < thread_count →
      step_of m t 0xB0000100 ≡ stepped (refused 3 []) m
  -- 0xB0078009 copies GPRs 4–7 to words 8–11
  pub m6 : (m : Machine) (t : ℕ) → Unstalled 7 m t →
      step_of m t 0xB0078009 ≡
      leaves_config m t
      (set (set (set (set m.kept.config (word_place m t 8) (gpr_in m t 4)) (word_place m t 9) (gpr_in m t 5)) (word_place m t 10) (gpr_in m t 6)) (word_place m t 11) (gpr_in m t 7))
  -- M7, M8 and M9
  pub dest : DestExamples
  -- and M8's 512 is refused, by the bench's number 11
  pub m8_refused : (config : List ℕ) (s : Dest) (bank : ℕ) (out : List ℕ) →
      length config ≡ config_count → length s.cells ≡ dest_count → length s.marks ≡ mark_count → bank ≤ 1 →
      read_row32_of config s bank 512 out ≡ call (refused 11 []) out
  -- 0x01020002, high mask 0, m1 = 1: m3 m2 m7 m8 m3 m2, for nine words without a REPLAY
  pub m10 : (m0 m2 m3 m4 m5 m6 m7 m8 : ℕ) (out : List ℕ) → 6 ≤ length out →
      any_replay (m0 ∷ 1 ∷ m2 ∷ m3 ∷ m4 ∷ m5 ∷ m6 ∷ m7 ∷ m8 ∷ []) ≡ false →
      expand_of (m0 ∷ 1 ∷ m2 ∷ m3 ∷ m4 ∷ m5 ∷ m6 ∷ m7 ∷ m8 ∷ []) fresh_carried (0x01020002 ∷ []) out ≡
      expanding (accepted 6) fresh_carried (over out 0 (m3 ∷ m2 ∷ m7 ∷ m8 ∷ m3 ∷ m2 ∷ []))
  -- template 1, 2 by 2: m2 m5 m6 m5 m8 m3 m4 m2 m5 m6 m5 m7 m3 m4, for nine words without a REPLAY while no load is on
  pub m11 : (m2 m3 m4 m5 m6 m7 m8 : ℕ) (c : Carried) (out : List ℕ) → 14 ≤ length out →
      load_formed c.load ≡ true → is_loading c.load ≡ false →
      any_replay (2 ∷ 2 ∷ m2 ∷ m3 ∷ m4 ∷ m5 ∷ m6 ∷ m7 ∷ m8 ∷ []) ≡ false →
      expand_of (2 ∷ 2 ∷ m2 ∷ m3 ∷ m4 ∷ m5 ∷ m6 ∷ m7 ∷ m8 ∷ []) c (0x01800000 ∷ []) out ≡
      expanding (accepted 14) c (over out 0 (m2 ∷ m5 ∷ m6 ∷ m5 ∷ m8 ∷ m3 ∷ m4 ∷ m2 ∷ m5 ∷ m6 ∷ m5 ∷ m7 ∷ m3 ∷ m4 ∷ []))
