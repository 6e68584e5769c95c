-- The image's first body is a right format, and which control parts it can write.
use Prim.Native.Nat.{ℕ, zero, suc, ◌+◌, ◌*◌, ◌/◌, ◌%◌, ◌≤◌, ◌<◌}
use mathlib.Core.Path.{◌≡◌, refl, ap, ap₂}
use mathlib.Core.Bool.{true, ◌&&◌}
use mathlib.Core.List.{List, [], ◌∷◌}
use native.Mathlib.Nat.{div-one}
use native.Mathlib.Omega.{arith}
use lib.Dec.{leb, eqb, lit<}
use lib.ListN.{length}
use borrow.Author.Tests.{ne_eqb, leb-true, le-leb}
use Rattle.bits.specs.Ranges.{all_at_most}
use Rattle.bits.proofs.Choices.{and_left, and_right, cond_both}
use Rattle.machine.specs.declared.control.Wait.{Wait}
use Rattle.machine.specs.declared.control.Wait.TheVariants.{Clear, OnStall, OnSemaphore}
use Rattle.machine.specs.declared.control.Semaphore.{Semaphore}
use Rattle.machine.specs.declared.control.Control.{Control}
use Rattle.machine.specs.Formed.{wait_formed, semaphores_formed}
use Rattle.machine.specs.Sizes.{setting_count, mutex_count, semaphore_count, bank_count, pointer_count, half_most, holder_most, semaphore_most, block_most, conditions_most, mask_most, condition_most}
use Rattle.machine.proofs.ControlFacts.{ControlFacts}
use Rattle.format.specs.Format.{num, both, many, many_ok, most_after}
use Rattle.format.proofs.Fields.{after_kind_room}
use Rattle.format.proofs.Lawful.{Lawful, num_lawful, dep_lawful, both_lawful, many_lawful, numbers_lawful, via_on_lawful, via_lawful, numbers_ok, ok_numbers}
use Rattle.image_layout.specs.Control.{semaphore_format, wait_kind_most, low_most, wait_triple, wait_of_triple, triple_of_wait, TwoBits, wait_format, thread_format, locks_format, waits_format, banks_format, decided, decided_of_parts, parts_of_decided, control_format}

-- ---- waits
low_room : (k : ℕ) → low_most k < 65536
unfolding low_most
low_room k = cond_both (λ (n : ℕ). n < 65536) (eqb k 1) (lit< tt) (lit< tt)

triple_lawful : Lawful wait_triple
triple_lawful =
    dep_lawful (num 1 0 wait_kind_most) (λ k. both (num 2 0 (most_after k block_most)) (num 2 0 (most_after k (low_most k)))) 4
    (num_lawful 1 0 wait_kind_most (lit< tt) (lit< tt))
    (λ k.
    both_lawful _ _ (num_lawful 2 0 (most_after k block_most) (lit< tt) (after_kind_room k block_most 65536 (lit< tt) (lit< tt)))
    (num_lawful 2 0 (most_after k (low_most k)) (lit< tt) (after_kind_room k (low_most k) 65536 (lit< tt) (low_room k))))
    (λ k. refl)

wait_there : (w : Wait) → wait_format.Ok w → wait_of_triple (triple_of_wait w) ≡ w
unfolding wait_of_triple most_after low_most
wait_there Clear ok = refl
wait_there (OnStall block conditions) ok = refl
wait_there (OnSemaphore block mask condition) ok =
    let low = ok.1.1.1.1 in
    let two = ok.0 in
    let m : (mask * 4 + condition) / 4 % 256 ≡ mask = omega arith in
    let n : (mask * 4 + condition) / 1 % 4 ≡ condition = rw div-one (omega arith) in
    ap₂ (OnSemaphore block) m n

wait_back : (k b l : ℕ) → wait_triple.Ok (k, (b, l)) → triple_of_wait (wait_of_triple (k, (b, l))) ≡ (k, (b, l))
unfolding wait_of_triple most_after low_most
wait_back zero b l ok =
    let e : 0 ≡ b = omega arith in
    let f : 0 ≡ l = omega arith in
    ap₂ (λ (x y : ℕ). (0, (x, y))) e f
wait_back (suc zero) b l ok = refl
wait_back (suc (suc zero)) b l ok =
    let e : l / 4 % 256 * 4 + l / 1 % 4 ≡ l = rw div-one (omega arith) in
    ap (λ (x : ℕ). (2, (b, x))) e
wait_back (suc (suc (suc k))) b l ok = absurd (omega arith)

wait_shape : (k b l : ℕ) → TwoBits (wait_of_triple (k, (b, l)))
unfolding wait_of_triple
wait_shape zero b l = tt
wait_shape (suc zero) b l = tt
wait_shape (suc (suc k)) b l = rw (ne_eqb (suc (suc k)) 0 (λ z. omega arith), ne_eqb (suc (suc k)) 1 (λ z. omega arith)) (omega arith)

wait_lawful : Lawful wait_format
wait_lawful =
    via_on_lawful TwoBits wait_of_triple triple_of_wait wait_triple triple_lawful wait_there (λ t ok. wait_back t.0 t.1.0 t.1.1 ok)
    (λ t ok. wait_shape t.0 t.1.0 t.1.1)

thread_lawful : Lawful thread_format
thread_lawful = via_lawful (λ w. record { wait = w }) (λ t. t.wait) wait_format wait_lawful (λ t. refl) (λ w ok. refl)

-- ---- the whole body
semaphore_lawful : Lawful semaphore_format
semaphore_lawful =
    let byte = num_lawful 1 0 semaphore_most (lit< tt) (lit< tt) in
    via_lawful _ _ (both (num 1 0 semaphore_most) (num 1 0 semaphore_most)) (both_lawful _ _ byte byte) (λ s. refl) (λ t ok. refl)

locks_lawful : Lawful locks_format
locks_lawful =
    both_lawful _ _ (both_lawful _ _ (numbers_lawful setting_count 2 half_most (lit< tt) (lit< tt)) (numbers_lawful mutex_count 1 holder_most (lit< tt) (lit< tt)))
    (many_lawful semaphore_count semaphore_format semaphore_lawful)

waits_lawful : Lawful waits_format
waits_lawful = both_lawful _ _ (both_lawful _ _ thread_lawful thread_lawful) thread_lawful

banks_lawful : Lawful banks_format
banks_lawful = both_lawful _ _ (numbers_lawful bank_count 1 1 (lit< tt) (lit< tt)) (numbers_lawful pointer_count 1 1 (lit< tt) (lit< tt))

pub control_lawful : Lawful control_format
control_lawful =
    via_lawful decided_of_parts parts_of_decided (both (both locks_format waits_format) banks_format)
    (both_lawful _ _ (both_lawful _ _ locks_lawful waits_lawful) banks_lawful)
    (λ d. refl)
    (λ t ok. refl)

-- ---- what can be written is what is well formed
abbrev Within : ℕ → ℕ → Type 0
Within v hi = (0 ≤ v) × (v ≤ hi)

within : (v hi : ℕ) → leb v hi ≡ true → Within v hi
within v hi h = (omega arith, leb-true v hi h)

wait_ok : (w : Wait) → wait_formed w ≡ true → wait_format.Ok w
unfolding most_after low_most
wait_ok Clear h = (tt, ((omega arith, omega arith), ((omega arith, omega arith), (omega arith, omega arith))))
wait_ok (OnStall block conditions) h =
    let b = leb block block_most in
    let c = leb conditions conditions_most in
    (tt, ((omega arith, omega arith), (within block block_most (and_left b c h), within conditions conditions_most (and_right b c h))))
wait_ok (OnSemaphore block mask condition) h =
    let b = leb block block_most in
    let m = leb mask mask_most in
    let c = leb condition condition_most in
    let k = and_right b (m && c) h in
    let small : mask ≤ mask_most = leb-true mask mask_most (and_left m c k) in
    let two : condition ≤ condition_most = leb-true condition condition_most (and_right m c k) in
    (two, ((omega arith, omega arith), (within block block_most (and_left b (m && c) h), (omega arith, omega arith))))

ok_wait : (w : Wait) → wait_format.Ok w → wait_formed w ≡ true
unfolding most_after low_most
ok_wait Clear ok = refl
ok_wait (OnStall block conditions) ok = rw (le-leb block block_most ok.1.1.0.1, le-leb conditions conditions_most ok.1.1.1.1)
ok_wait (OnSemaphore block mask condition) ok =
    let low = ok.1.1.1.1 in
    rw (le-leb block block_most ok.1.1.0.1, le-leb mask mask_most (omega arith), le-leb condition condition_most ok.0)

semaphores_ok : (n : ℕ) (l : List Semaphore) → length l ≡ n → semaphores_formed l ≡ true → (many n semaphore_format).Ok l
unfolding many_ok semaphores_formed
semaphores_ok zero [] e h = tt
semaphores_ok zero (s ∷ l) e h = absurd (omega arith)
semaphores_ok (suc n) [] e h = absurd (omega arith)
semaphores_ok (suc n) (s ∷ l) e h =
    let v = leb s.value semaphore_most in
    let x = leb s.maximum semaphore_most in
    let one = and_left (v && x) (semaphores_formed l) h in
    let value = within s.value semaphore_most (and_left v x one) in
    let maximum = within s.maximum semaphore_most (and_right v x one) in
    ((tt, (value, maximum)), semaphores_ok n l (omega arith) (and_right (v && x) (semaphores_formed l) h))

ok_semaphores : (n : ℕ) (l : List Semaphore) → (many n semaphore_format).Ok l → (length l ≡ n) × (semaphores_formed l ≡ true)
unfolding many_ok semaphores_formed
ok_semaphores zero [] ok = (refl, refl)
ok_semaphores zero (s ∷ l) ok = absurd ok
ok_semaphores (suc n) [] ok = absurd ok
ok_semaphores (suc n) (s ∷ l) ok =
    let rest = ok_semaphores n l ok.1 in
    (ap suc rest.0, rw (le-leb s.value semaphore_most ok.0.1.0.1, le-leb s.maximum semaphore_most ok.0.1.1.1) rest.1)

pub control_ok : (s : List ℕ) (c : Control) → length s ≡ setting_count → all_at_most half_most s ≡ true → ControlFacts c → control_format.Ok (decided s c)
control_ok s c e h f =
    let settings = numbers_ok 2 half_most setting_count s e h in
    let mutexes = numbers_ok 1 holder_most mutex_count c.mutexes f.mutexes.long f.mutexes.range in
    let semaphores = semaphores_ok semaphore_count c.semaphores f.semaphores.long f.semaphores.range in
    let w0 = wait_ok c.t0.wait f.waits.wait0 in
    let w1 = wait_ok c.t1.wait f.waits.wait1 in
    let w2 = wait_ok c.t2.wait f.waits.wait2 in
    let owners = numbers_ok 1 1 bank_count c.owners f.owners.long f.owners.range in
    let pointers = numbers_ok 1 1 pointer_count c.pointers f.pointers.long f.pointers.range in
    (tt, ((((settings, mutexes), semaphores), (((tt, w0), (tt, w1)), (tt, w2))), (owners, pointers)))

pub ok_control : (s : List ℕ) (c : Control) → control_format.Ok (decided s c) → (length s ≡ setting_count) × (all_at_most half_most s ≡ true) × ControlFacts c
ok_control s c ok =
    let n = ok_numbers 2 half_most setting_count s ok.1.0.0.0.0 in
    let m = ok_numbers 1 holder_most mutex_count c.mutexes ok.1.0.0.0.1 in
    let v = ok_semaphores semaphore_count c.semaphores ok.1.0.0.1 in
    let w = ok.1.0.1 in
    let o = ok_numbers 1 1 bank_count c.owners ok.1.1.0 in
    let p = ok_numbers 1 1 pointer_count c.pointers ok.1.1.1 in (
      n.0,
      n.1,
      record {
        mutexes = record { long = m.0; range = m.1 };
        semaphores = record { long = v.0; range = v.1 };
        owners = record { long = o.0; range = o.1 };
        pointers = record { long = p.0; range = p.1 };
        waits =
            record {
              wait0 = ok_wait c.t0.wait w.0.0.1;
              wait1 = ok_wait c.t1.wait w.0.1.1;
              wait2 = ok_wait c.t2.wait w.1.1;
            };
      },
    )
