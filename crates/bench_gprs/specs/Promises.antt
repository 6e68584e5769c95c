-- What holds of the calls together, over their definitions.
use Rattle.std.specs.Prelude.{ℕ, ◌≡◌, List}
use Rattle.machine.specs.Answers.{accepted}
use Rattle.bench_gprs.specs.Gprs.{read_gpr_of, write_gpr_of}

pub record GprPromises : Type 0 where
  -- what is written to a GPR is read back
  pub read_back : (g : List ℕ) (thread register value : ℕ) →
      (write_gpr_of g thread register value).answer ≡ accepted tt →
      read_gpr_of (write_gpr_of g thread register value).after thread register ≡ accepted value
  -- every other GPR is left, also by a refused call
  pub others_left : (g : List ℕ) (thread register value thread' register' : ℕ) →
      ((thread ≡ thread') × (register ≡ register') → ⊥) →
      read_gpr_of (write_gpr_of g thread register value).after thread' register' ≡ read_gpr_of g thread' register'
