-- One word on two machines that agree, whatever their stores hold.
use Rattle.std.specs.Prelude.{ℕ, ◌≡◌}
use Rattle.machine.specs.Machine.{Machine}
use Rattle.step_rules.specs.Step.{Step, offer_of}

-- the machines "agree on thread settings, mutexes, semaphores, waits, bank owners and bank pointers"
pub record Agree (m n : Machine) : Type 0 where
  pub settings : m.settings ≡ n.settings
  pub mutexes : m.control.mutexes ≡ n.control.mutexes
  pub semaphores : m.control.semaphores ≡ n.control.semaphores
  -- of threads 0, 1 and 2
  pub wait0 : m.control.t0.wait ≡ n.control.t0.wait
  pub wait1 : m.control.t1.wait ≡ n.control.t1.wait
  pub wait2 : m.control.t2.wait ≡ n.control.t2.wait
  pub owners : m.control.owners ≡ n.control.owners
  pub pointers : m.control.pointers ≡ n.control.pointers

pub record StepsAlike (p q : Step) : Type 0 where
  pub outcome : p.outcome ≡ q.outcome
  pub agree : Agree p.after q.after

-- equal outcome with its number, and the machines still agree
abbrev pub OffersAlike : Type 0
OffersAlike = (m n : Machine) (t w : ℕ) → Agree m n → StepsAlike (offer_of m t w) (offer_of n t w)
