-- A machine: the control part, the thread settings (ThreadConfig) and the stores.
use Rattle.std.specs.Prelude.{ℕ, Bool, List}
use Rattle.machine.specs.declared.control.Control.{Control}

-- Dest: its cells by row and column, and a valid mark per row
pub record Dest : Type 0 where
  pub cells : List ℕ
  pub marks : List Bool

abbrev pub dest_of : List ℕ → List Bool → Dest
dest_of d v = record { cells = d; marks = v }

-- the stores, each as one list by thread or bank, row, column
pub record Stores : Type 0 where
  pub gprs : List ℕ
  pub config : List ℕ
  pub dest : Dest
  pub src_a : List ℕ
  pub src_b : List ℕ

abbrev pub stores : List ℕ → List ℕ → Dest → List ℕ → List ℕ → Stores
stores g c d a b = record { gprs = g; config = c; dest = d; src_a = a; src_b = b }

pub record Machine : Type 0 where
  pub control : Control
  pub settings : List ℕ
  pub kept : Stores

abbrev pub machine_with : Control → List ℕ → Stores → Machine
machine_with c s k = record { control = c; settings = s; kept = k }

-- a machine by all its parts, as they are lent: control part, settings, GPRs, Config, Dest's cells and marks, SrcA, SrcB
abbrev pub machine : Control → List ℕ → List ℕ → List ℕ → List ℕ → List Bool → List ℕ → List ℕ → Machine
machine c s g k d v a b = machine_with c s (stores g k (dest_of d v) a b)

-- the stores with one of them replaced
abbrev pub with_gprs : Stores → List ℕ → Stores
with_gprs k g = stores g k.config k.dest k.src_a k.src_b

abbrev pub with_config : Stores → List ℕ → Stores
with_config k c = stores k.gprs c k.dest k.src_a k.src_b

abbrev pub with_marks : Stores → List Bool → Stores
with_marks k v = stores k.gprs k.config (dest_of k.dest.cells v) k.src_a k.src_b

abbrev pub with_src_a : Stores → List ℕ → Stores
with_src_a k a = stores k.gprs k.config k.dest a k.src_b

abbrev pub with_src_b : Stores → List ℕ → Stores
with_src_b k b = stores k.gprs k.config k.dest k.src_a b
