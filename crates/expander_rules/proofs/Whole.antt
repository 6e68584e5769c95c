-- What holds of the expander as a whole.
use Prim.Native.Nat.{ℕ, zero, suc, ◌≤◌, ◌<◌}
use mathlib.Core.Bool.{Bool, true, false, not}
use mathlib.Core.List.{List, []}
use Rattle.std.specs.Prelude.{Result, Ok, Err}
use mathlib.Core.Path.{◌≡◌, refl, sym, ap}
use native.Mathlib.Omega.{arith}
use lib.Dec.{leb}
use lib.ListN.{length, get_or, replicate}
use borrow.Author.Tests.{leb-true}
use Rattle.bits.proofs.Choices.{and_left}
use Rattle.machine.specs.Answers.{Told, accepted, refused, told, provided}
use Rattle.expander_rules.specs.Sizes.{slot_count, nop_word, needed_most}
use Rattle.expander_rules.specs.Stream.{any_replay, stream_of}
use Rattle.expander_rules.specs.Replay.{is_loading, buffer}
use Rattle.expander_rules.specs.Call.{answered, Expanding, expanding, expansion_of, bad_rounds, unless_refused, expand_check, expand_of, close_check, closed, close_of}
use Rattle.expander_rules.specs.Promises.{RefusedPieces, Stages, mop_expansion, mop_check, mop_call_of, PlainStreams, SlotsHandedBack, FreshExpander}
use Rattle.machine.specs.declared.refusal.Refusal.{Refusal}
use Rattle.expander_rules.specs.declared.Carried.{Carried}
use Rattle.expander_rules.proofs.ReplayLaws.{plain_words, slots_kept}
use Rattle.expander_rules.proofs.Faults.{plain_fault}
use Rattle.expander_rules.proofs.Calls.{refuses_by, accepts, refuses}

pub stages : Stages
unfolding expansion_of
stages m c l out n e = (accepts m c l out n e).done

-- a check of one test, before others
unless_provided : (test : Bool) (number : ℕ) (rest : Told (Unit {0})) →
    unless_refused (provided {A = Unit {0}} test number (accepted tt)) rest ≡ provided test number rest
unless_provided true number rest = refl
unless_provided false number rest = refl

module _ (m : List ℕ) (c : Carried) (l : List ℕ) (off : is_loading c.load ≡ false) (none : any_replay (stream_of m c.high_mask l).words ≡ false) where
  plain_expansion : expansion_of m c l ≡ mop_expansion m c l
  unfolding expansion_of
  plain_expansion = rw (plain_words (buffer c.slots c.load) (stream_of m c.high_mask l).words off none)

  plain_check : (out : List ℕ) → expand_check m c l out ≡ mop_check m c l out
  unfolding expand_check mop_check
  plain_check out =
      rw (plain_expansion, plain_fault m c.high_mask c.load l none, unless_provided (not (bad_rounds m l)))

pub plain_streams : PlainStreams
unfolding expand_of mop_call_of
plain_streams m c l out off none = rw (plain_check m c l off none out, plain_expansion m c l off none)

pub slots_handed_back : SlotsHandedBack
unfolding expansion_of
slots_handed_back m c l out = go (expand_of m c l out).answer refl
  where
    go : (a : Told ℕ) → (expand_of m c l out).answer ≡ a → length (expand_of m c l out).carried.slots ≡ length c.slots
    go (accepted n) e = rw (accepts m c l out n e).done (slots_kept (buffer c.slots c.load) (stream_of m c.high_mask l).words)
    go (refused number values) e = rw (refuses m c l out number values e)

close_kept : (c : Carried) (number : ℕ) (values : List ℕ) → (close_of c).answer ≡ refused number values → (close_of c).carried ≡ c
unfolding close_of
close_kept c number values e = ap (λ (k : Expanding). k.carried) (refuses_by c [] (closed c) (close_check c) refl e)

pub refused_pieces : RefusedPieces
refused_pieces = record { piece = refuses; close = close_kept }

each_fresh : (n i : ℕ) → i < n → get_or (replicate n nop_word) i 0 ≡ nop_word
each_fresh zero i h = absurd (omega arith)
each_fresh (suc n) zero h = refl
each_fresh (suc n) (suc i) h = each_fresh n i (omega arith)

pub fresh_expander : FreshExpander
fresh_expander = record { mask = refl; count = refl; each = each_fresh slot_count; load = refl }

-- what an accepted call has written fits
pub answer_fits : (m : List ℕ) (c : Carried) (l out : List ℕ) (a : Result ℕ Refusal) (after : Carried) (now : List ℕ) →
    expanding (told a) after now ≡ expand_of m c l out → answered a ≤ length out
answer_fits m c l out (Ok n) after now e =
    leb-true n (length out) (and_left (leb n (length out)) (leb n needed_most) (accepts m c l out n (sym (ap (λ (k : Expanding). k.answer) e))).enough)
answer_fits m c l out (Err r) after now e = omega arith
