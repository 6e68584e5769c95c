-- Laws of a survey of words that goes on part by part.
use Prim.Native.Nat.{ℕ, ◌+◌}
use mathlib.Core.Bool.{Bool, true, false, ◌||◌}
use Rattle.std.specs.Prelude.{Option, Some, None}
use mathlib.Core.List.{List, [], ◌∷◌, ◌++◌}
use mathlib.Core.Path.{◌≡◌, refl, sym, ap, ◌∙◌}
use native.Mathlib.Omega.{arith}
use lib.ListN.{length}
use Rattle.expander_rules.specs.Stream.{any_replay}
use Rattle.expander_rules.specs.Replay.{is_loading, load_after, loads_after, obeyed_badly, any_obeyed_badly}
use Rattle.expander_rules.specs.Counts.{capped, written_count, played_count}
use Rattle.expander_rules.specs.declared.Load.{Load}
use Rattle.expander_rules.proofs.ReplayLaws.{bad_append, loads_append, count_append, plain_fine, plain_loads, plain_count}
use Rattle.expander_replay.specs.Surveyed.{Surveying, Counted, Surveyed}
use Rattle.expander_replay.specs.declared.survey.Survey.{Survey}

-- no word
pub surveyed_none : {s : Survey} {limit : ℕ} → Surveying s limit → Counted s [] limit s
unfolding any_obeyed_badly played_count loads_after
surveyed_none g = record { fine = refl; small = g.small; counted = omega (arith, g.small); onward = refl }

-- one word
or_false : (b : Bool) → (b || false) ≡ b
or_false true = refl
or_false false = refl

pub surveyed_bad : (s : Survey) (word : ℕ) → obeyed_badly s.load word ≡ true → any_obeyed_badly s.load (word ∷ []) ≡ true
unfolding any_obeyed_badly
surveyed_bad s word bad = or_false (obeyed_badly s.load word) ∙ bad

pub surveyed_one : (s : Survey) (word limit : ℕ) (t : Survey) → obeyed_badly s.load word ≡ false →
    t.count ≡ capped limit (s.count + written_count s.load word) → t.load ≡ load_after s.load word → Counted s (word ∷ []) limit t
unfolding any_obeyed_badly played_count loads_after
surveyed_one s word limit t fine count after =
    record { fine = or_false (obeyed_badly s.load word) ∙ fine; small = omega arith; counted = omega arith; onward = after }

-- words without a REPLAY, where no load is on
pub surveyed_plain : (s : Survey) (l : List ℕ) (limit : ℕ) (t : Survey) → is_loading s.load ≡ false → any_replay l ≡ false →
    t.count ≡ capped limit (s.count + length l) → t.load ≡ s.load → Counted s l limit t
surveyed_plain s l limit t off none count load =
    record {
      fine = plain_fine s.load l none;
      small = omega arith;
      counted = omega (arith, plain_count s.load l off none);
      onward = load ∙ sym (plain_loads s.load l off none);
    }

-- a first part in which a bad REPLAY is obeyed
pub surveyed_stop : (s : Survey) (part more : List ℕ) → any_obeyed_badly s.load part ≡ true → any_obeyed_badly s.load (part ++ more) ≡ true
surveyed_stop s part more bad = rw (bad_append s.load part more, bad)

-- a first part, after which the survey is t, and more
module _ {s t : Survey} {part : List ℕ} {limit : ℕ} (p : Counted s part limit t) (more : List ℕ) where
  pub surveyed_then : (v : Option Survey) → Surveyed t more limit v → Surveyed s (part ++ more) limit v
  surveyed_then None bad = rw (bad_append s.load part more, p.fine, ← p.onward) bad
  surveyed_then (Some v) q =
      record {
        fine = rw (bad_append s.load part more, p.fine, ← p.onward) q.fine;
        small = q.small;
        counted = omega (arith, q.counted, p.counted, count_append s.load part more, ap (λ (x : Option Load). played_count x more) p.onward);
        onward = q.onward ∙ rw (loads_append s.load part more, p.onward);
      }

-- what a loop has still to tell: a survey of the rest, from where it is, is one of all
pub record Onward (s₀ : Survey) (l : List ℕ) (limit : ℕ) (s : Survey) (rest : List ℕ) : Type 0 where
  pub going : Surveying s limit
  pub tells : (v : Option Survey) → Surveyed s rest limit v → Surveyed s₀ l limit v

pub onward_start : {s : Survey} {limit : ℕ} (l : List ℕ) → Surveying s limit → Onward s l limit s l
onward_start l g = record { going = g; tells = λ v q. q }

module _ {s₀ s : Survey} {l rest : List ℕ} {limit : ℕ} (u : Onward s₀ l limit s rest) where
  pub onward_done : rest ≡ [] → Counted s₀ l limit s
  onward_done e = u.tells (Some s) (rw e (surveyed_none u.going))

  module _ (part more : List ℕ) (e : rest ≡ part ++ more) where
    pub onward_next : {t : Survey} → Counted s part limit t → Onward s₀ l limit t more
    onward_next p = record { going = record { small = p.small; most = u.going.most }; tells = λ v q. u.tells v (rw e (surveyed_then p more v q)) }

    pub onward_stopped : any_obeyed_badly s.load part ≡ true → any_obeyed_badly s₀.load l ≡ true
    onward_stopped bad = u.tells None (rw e (surveyed_stop s part more bad))
