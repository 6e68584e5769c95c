-- The control part, with one thing in it read or replaced.
use Rattle.std.specs.Prelude.{ℕ, ◌+◌, ◌*◌, Bool, cond, List, eqb, get_or}
use Rattle.machine.specs.declared.control.Wait.{Wait}
use Rattle.machine.specs.declared.control.Thread.{Thread}
use Rattle.machine.specs.declared.control.Semaphore.{Semaphore}
use Rattle.machine.specs.declared.control.Control.{Control}

unfoldable pub thread_at : Control → ℕ → Thread
thread_at c t = cond (eqb t 0) c.t0 (cond (eqb t 1) c.t1 c.t2)

abbrev pub control : Thread → Thread → Thread → List ℕ → List Semaphore → List ℕ → List ℕ → Control
control t0 t1 t2 m s o p = record { t0 = t0; t1 = t1; t2 = t2; mutexes = m; semaphores = s; owners = o; pointers = p }

abbrev pub with_threads : Control → Thread → Thread → Thread → Control
with_threads c t0 t1 t2 = control t0 t1 t2 c.mutexes c.semaphores c.owners c.pointers

unfoldable pub with_thread : Control → ℕ → Thread → Control
with_thread c t x =
    cond (eqb t 0) (with_threads c x c.t1 c.t2)
    (cond (eqb t 1) (with_threads c c.t0 x c.t2)
    (with_threads c c.t0 c.t1 x))

abbrev pub with_mutexes : Control → List ℕ → Control
with_mutexes c m = control c.t0 c.t1 c.t2 m c.semaphores c.owners c.pointers

abbrev pub with_semaphores : Control → List Semaphore → Control
with_semaphores c s = control c.t0 c.t1 c.t2 c.mutexes s c.owners c.pointers

abbrev pub with_banks : Control → List ℕ → List ℕ → Control
with_banks c o p = control c.t0 c.t1 c.t2 c.mutexes c.semaphores o p

abbrev pub wait_of : Control → ℕ → Wait
wait_of c t = (thread_at c t).wait

abbrev pub with_wait : Control → ℕ → Wait → Control
with_wait c t w = with_thread c t (record { wait = w })

-- ---- the banks at the pointers. Source files: 0 is SrcA, 1 is SrcB

-- pointers stand in the order matrix A, matrix B, unpack A, unpack B
abbrev pub matrix_place : ℕ → ℕ
matrix_place file = file

abbrev pub unpack_place : ℕ → ℕ
unpack_place file = 2 + file

-- owners stand in the order A0, A1, B0, B1: Unpackers is 0, Matrix is 1
abbrev pub owner_place : ℕ → ℕ → ℕ
owner_place file bank = 2 * file + bank

abbrev pub matrix_bank : Control → ℕ → ℕ
matrix_bank c file = get_or c.pointers (matrix_place file) 0

abbrev pub unpack_bank : Control → ℕ → ℕ
unpack_bank c file = get_or c.pointers (unpack_place file) 0

abbrev pub owner_of : Control → ℕ → ℕ → ℕ
owner_of c file bank = get_or c.owners (owner_place file bank) 0

abbrev pub unpackers_own : Control → ℕ → Bool
unpackers_own c file = eqb (owner_of c file (unpack_bank c file)) 0

abbrev pub matrix_owns : Control → ℕ → Bool
matrix_owns c file = eqb (owner_of c file (matrix_bank c file)) 1
