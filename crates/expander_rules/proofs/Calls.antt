-- What a call comes to in each case.
use Prim.Native.Nat.{ℕ, ◌≤◌, ◌<◌, min}
use mathlib.Core.Bool.{Bool, true, false, not}
use mathlib.Core.List.{List, []}
use mathlib.Core.Path.{◌≡◌, refl, sym, ap, ◌∙◌}
use native.Mathlib.Omega.{arith}
use lib.Dec.{leb}
use lib.ListN.{length}
use borrow.Author.Tests.{eq-eqb, ne_eqb, le-leb, lt-leb, leb-true}
use Rattle.machine.specs.Answers.{Told, accepted, refused, provided}
use Rattle.machine.specs.Sizes.{stream_most}
use Rattle.machine.proofs.Checks.{refused_accepted, provided_test, provided_rest}
use Rattle.expander_rules.specs.Sizes.{nine_count, needed_most}
use Rattle.expander_rules.specs.Stream.{stream_of}
use Rattle.expander_rules.specs.Replay.{buffer}
use Rattle.expander_rules.specs.State.{load_formed}
use Rattle.expander_rules.specs.Call.{Expanding, expanding, Expansion, expansion_of, right_lengths, bad_rounds, fault_of, enough_room, unless_refused, expand_check, if_accepted, done_with, expand_of, closed, close_of}
use Rattle.expander_rules.specs.Counts.{stream_count, played_count}
use Rattle.expander_rules.specs.Admitted.{Admitted}
use Rattle.expander_rules.specs.Promises.{mop_expansion, mop_check, mop_call_of}
use Rattle.expander_rules.specs.declared.Carried.{Carried}
use Rattle.expander_rules.proofs.ReplayLaws.{play_long}
use Rattle.expander_rules.proofs.StreamLaws.{stream_long}

-- ---- any call, by its check
module _ (c : Carried) (out : List ℕ) (done : Expanding) where
  pub if_done : {check : Told (Unit {0})} → check ≡ accepted tt → if_accepted check c out done ≡ done
  if_done e = rw e

  -- a check is told by the answer
  pub passed_check : (check : Told (Unit {0})) {n : ℕ} → (if_accepted check c out done).answer ≡ accepted n → check ≡ accepted tt
  passed_check (accepted x) e = refl
  passed_check (refused number values) e = refused_accepted (sym e)

  -- a refused call writes nothing and hands back the old state
  pub refuses_by : (check : Told (Unit {0})) {n number : ℕ} {values : List ℕ} → done.answer ≡ accepted n →
      (if_accepted check c out done).answer ≡ refused number values → if_accepted check c out done ≡ expanding (refused number values) c out
  refuses_by (accepted x) p e = refused_accepted (sym p ∙ e)
  refuses_by (refused number values) p e = ap (λ (a : Told ℕ). expanding a c out) e

both_accepted : {B : Type 0} {y : B} (first : Told (Unit {0})) (rest : Told B) → unless_refused first rest ≡ accepted y →
    (first ≡ accepted tt) × (rest ≡ accepted y)
both_accepted (accepted x) rest e = (refl, e)
both_accepted (refused number values) rest e = refused_accepted (sym e)

-- a first check and what an accepted call counts, by what is told of both
pub told_fault : {A B : Type 0} (first : Told A) (y : B) {n : ℕ} {vs : List ℕ} → refused n vs ≡ unless_refused first (accepted y) → refused n vs ≡ first
told_fault (accepted x) y e = refused_accepted (sym e)
told_fault (refused number values) y e = cc

pub told_sound : {B : Type 0} (first : Told (Unit {0})) {x y : B} → accepted x ≡ unless_refused first (accepted y) → (accepted tt ≡ first) × (x ≡ y)
told_sound (accepted u) e = (refl, cc)
told_sound (refused number values) e = refused_accepted e

-- ---- the lesser of the room and 65,536 decides
little : (out : List ℕ) (needed : ℕ) → min (length out) needed_most < needed → enough_room out needed ≡ false
little out needed h = go (leb needed (length out)) refl
  where
    go : (t : Bool) → leb needed (length out) ≡ t → enough_room out needed ≡ false
    go true e = rw (e, lt-leb needed needed_most (omega (arith, leb-true needed (length out) e)))
    go false e = rw e

ample : (out : List ℕ) (needed : ℕ) → needed ≤ min (length out) needed_most → enough_room out needed ≡ true
ample out needed h = rw (le-leb needed (length out) (omega arith), le-leb needed needed_most (omega arith))

-- ---- a call of both stages
module _ (m : List ℕ) (c : Carried) (l : List ℕ) where
  abbrev given : Expansion
  given = expansion_of m c l

  -- what the stream gives, counted
  pub needed_long : length given.words ≡ played_count c.load (stream_of m c.high_mask l).words
  unfolding expansion_of
  needed_long = play_long (buffer c.slots c.load) (stream_of m c.high_mask l).words

  module _ (out : List ℕ) where
    -- another number of words than nine, a stream that is too long, and a load that is malformed
    pub not_nine : (length m ≡ nine_count → ⊥) → expand_of m c l out ≡ expanding (refused 4 []) c out
    unfolding expand_of expand_check
    not_nine h = rw (ne_eqb (length m) nine_count h)

    pub long_stream : length m ≡ nine_count → stream_most < length l → expand_of m c l out ≡ expanding (refused 4 []) c out
    unfolding expand_of expand_check
    long_stream nine h = rw (eq-eqb (length m) nine_count nine, lt-leb (length l) stream_most h)

    pub malformed : length m ≡ nine_count → length l ≤ stream_most → load_formed c.load ≡ false → expand_of m c l out ≡ expanding (refused 10 []) c out
    unfolding expand_of expand_check
    malformed nine fits h = rw (eq-eqb (length m) nine_count nine, le-leb (length l) stream_most fits, h)

module _ (m : List ℕ) {c : Carried} {l : List ℕ} (nine : length m ≡ nine_count) (a : Admitted c l) (out : List ℕ) where
  passes_10 : expand_check m c l out ≡
      unless_refused (fault_of m c.high_mask c.load l) (provided (enough_room out (length (given m c l).words)) 8 (accepted tt))
  unfolding expand_check
  passes_10 = rw (eq-eqb (length m) nine_count nine, le-leb (length l) stream_most a.stream, a.load)

  pub faulty : {number : ℕ} {values : List ℕ} → refused number values ≡ fault_of m c.high_mask c.load l →
      expand_of m c l out ≡ expanding (refused number values) c out
  unfolding expand_of
  faulty h = rw (passes_10, ← h)

  module _ (sound : accepted tt ≡ fault_of m c.high_mask c.load l) where
    pub little_room : min (length out) needed_most < length (given m c l).words → expand_of m c l out ≡ expanding (refused 8 []) c out
    unfolding expand_of
    little_room h = rw (passes_10, ← sound, little out (length (given m c l).words) h)

    pub enough_room_lem : length (given m c l).words ≤ min (length out) needed_most → expand_of m c l out ≡ done_with (given m c l) out
    unfolding expand_of
    enough_room_lem h = rw (passes_10, ← sound, ample out (length (given m c l).words) h)

-- what an accepted call has passed, and what it comes to
pub record Accepts (m : List ℕ) (c : Carried) (l out : List ℕ) (n : ℕ) : Type 0 where
  pub lengths : right_lengths m l ≡ true
  pub load : load_formed c.load ≡ true
  pub sound : fault_of m c.high_mask c.load l ≡ accepted tt
  pub count : n ≡ length (expansion_of m c l).words
  pub enough : enough_room out n ≡ true
  pub done : expand_of m c l out ≡ done_with (expansion_of m c l) out

module _ (m : List ℕ) (c : Carried) (l out : List ℕ) where
  pub accepts : (n : ℕ) → (expand_of m c l out).answer ≡ accepted n → Accepts m c l out n
  unfolding expand_of expand_check
  accepts n e =
      let done = done_with (given m c l) out in
      let check = passed_check c out done (expand_check m c l out) e in
      let same = if_done c out done check in
      let count : n ≡ length (given m c l).words = cc in
      let one = provided_rest (right_lengths m l) 4 _ tt check in
      let two = both_accepted (fault_of m c.high_mask c.load l) _ (provided_rest (load_formed c.load) 10 _ tt one) in
      record {
        lengths = provided_test (right_lengths m l) 4 _ tt check;
        load = provided_test (load_formed c.load) 10 _ tt one;
        sound = two.0;
        count = count;
        enough = rw count (provided_test (enough_room out (length (given m c l).words)) 8 (accepted tt) tt two.1);
        done = same;
      }

  pub refuses : (number : ℕ) (values : List ℕ) → (expand_of m c l out).answer ≡ refused number values →
      expand_of m c l out ≡ expanding (refused number values) c out
  unfolding expand_of
  refuses number values e = refuses_by c out (done_with (given m c l) out) (expand_check m c l out) refl e

-- ---- a call of the MOP stage alone
module _ (m : List ℕ) {c : Carried} {l : List ℕ} (nine : length m ≡ nine_count) (a : Admitted c l) (out : List ℕ) where
  mop_passes_10 : mop_check m c l out ≡ provided (not (bad_rounds m l)) 7 (provided (enough_room out (length (mop_expansion m c l).words)) 8 (accepted tt))
  unfolding mop_check
  mop_passes_10 = rw (eq-eqb (length m) nine_count nine, le-leb (length l) stream_most a.stream, a.load)

  pub mop_rounds : bad_rounds m l ≡ true → mop_call_of m c l out ≡ expanding (refused 7 []) c out
  unfolding mop_call_of
  mop_rounds h = rw (mop_passes_10, h)

  module _ (few : bad_rounds m l ≡ false) where
    pub mop_little : min (length out) needed_most < stream_count m l → mop_call_of m c l out ≡ expanding (refused 8 []) c out
    unfolding mop_call_of
    mop_little h = rw (mop_passes_10, few, little out (length (mop_expansion m c l).words) (rw (stream_long m c.high_mask l) h))

    pub mop_enough : stream_count m l ≤ min (length out) needed_most → mop_call_of m c l out ≡ done_with (mop_expansion m c l) out
    unfolding mop_call_of
    mop_enough h = rw (mop_passes_10, few, ample out (length (mop_expansion m c l).words) (rw (stream_long m c.high_mask l) h))

-- ---- a close
module _ (c : Carried) where
  pub close_refused : load_formed c.load ≡ false → close_of c ≡ expanding (refused 10 []) c []
  unfolding close_of
  close_refused h = rw h

  pub close_done : load_formed c.load ≡ true → close_of c ≡ closed c
  unfolding close_of
  close_done h = rw h
