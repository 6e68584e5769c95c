-- One word on two machines that agree goes alike: deciding is given no store.
use Prim.Native.Nat.{ℕ}
use mathlib.Core.Path.{◌≡◌, refl, ap, subst}
use mathlib.Core.List.{List}
use Rattle.machine.specs.declared.control.Control.{Control}
use Rattle.machine.specs.Control.{control}
use Rattle.machine.specs.Machine.{Machine}
use Rattle.machine.specs.Answers.{Told, accepted, refused}
use Rattle.word_rules.specs.declared.instruction.Instruction.{Instruction}
use Rattle.word_rules.specs.Table.{decode_of}
use Rattle.word_rules.specs.Waits.{Gate, Open, Closed, gate_of}
use Rattle.word_rules.specs.After.{control_after, settings_after}
use Rattle.step_rules.specs.Step.{machine_after, by_gate, gated_of, by_decoded, offer_of}
use Rattle.step_rules.specs.Alike.{Agree, StepsAlike, OffersAlike}

-- what is named one by one is the whole control part
control_alike : {m n : Machine} → Agree m n → m.control ≡ n.control
control_alike a =
    λ i.
    control (record { wait = a.wait0 i }) (record { wait = a.wait1 i }) (record { wait = a.wait2 i }) (a.mutexes i) (a.semaphores i)
    (a.owners i) (a.pointers i)

-- machines with one control part and the same settings
agreeing : {m n : Machine} → m.control ≡ n.control → m.settings ≡ n.settings → Agree m n
agreeing e s =
    record {
      settings = s;
      mutexes = ap (λ (c : Control). c.mutexes) e;
      semaphores = ap (λ (c : Control). c.semaphores) e;
      wait0 = ap (λ (c : Control). c.t0.wait) e;
      wait1 = ap (λ (c : Control). c.t1.wait) e;
      wait2 = ap (λ (c : Control). c.t2.wait) e;
      owners = ap (λ (c : Control). c.owners) e;
      pointers = ap (λ (c : Control). c.pointers) e;
    }

gates_alike : (m n : Machine) (t : ℕ) (i : Instruction) (g : Gate) → Agree m n → StepsAlike (by_gate m t i g) (by_gate n t i g)
unfolding machine_after
gates_alike m n t i Open a =
    record {
      outcome = refl;
      agree =
          agreeing (ap (λ (c : Control). control_after c t i) (control_alike a))
          (ap (λ (s : List ℕ). settings_after i t s) a.settings);
    }
gates_alike m n t i (Closed k cause) a = record { outcome = refl; agree = a }

gated_alike : (m n : Machine) (t : ℕ) (i : Instruction) → Agree m n → StepsAlike (gated_of m t i) (gated_of n t i)
unfolding gated_of
gated_alike m n t i a =
    subst (λ (g : Gate). StepsAlike (by_gate m t i (gate_of m.control t i)) (by_gate n t i g))
    (ap (λ (c : Control). gate_of c t i) (control_alike a))
    (gates_alike m n t i (gate_of m.control t i) a)

decoded_alike : (m n : Machine) (t : ℕ) (d : Told Instruction) → Agree m n → StepsAlike (by_decoded m t d) (by_decoded n t d)
decoded_alike m n t (accepted i) a = gated_alike m n t i a
decoded_alike m n t (refused number vs) a = record { outcome = refl; agree = a }

pub offers_alike : OffersAlike
unfolding offer_of
offers_alike m n t w a = decoded_alike m n t (decode_of w) a
