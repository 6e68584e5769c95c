-- Laws of refusals 7 and 13, and of the words that a stream gives at the replay stage.
use Prim.Native.Nat.{ℕ}
use mathlib.Core.Bool.{Bool, true, false, not, ◌&&◌, ◌||◌}
use mathlib.Core.List.{List, [], ◌∷◌}
use Rattle.std.specs.Prelude.{Option}
use mathlib.Core.Path.{◌≡◌, refl, sym, ◌∙◌}
use Rattle.bits.proofs.Choices.{neither}
use Rattle.machine.specs.Answers.{Told, accepted, refused, provided}
use Rattle.machine.proofs.Checks.{refused_accepted}
use Rattle.expander_rules.specs.Stream.{is_template1, any_template1, any_word, any_replay, Emission, emission_of, stream_of}
use Rattle.expander_rules.specs.Replay.{loads_after, any_obeyed_badly}
use Rattle.expander_rules.specs.Call.{over_rounds, bad_rounds, fault_of}
use Rattle.expander_rules.specs.declared.Load.{Load}
use Rattle.expander_rules.proofs.Words.{any_append}
use Rattle.expander_rules.proofs.ReplayLaws.{plain_fine}

-- what is accepted has passed both tests
both_passed : (many bad : Bool) {rest : Told (Unit {0})} → provided (not many) 7 (provided (not bad) 13 rest) ≡ accepted tt →
    (many ≡ false) × ((bad ≡ false) × (rest ≡ accepted tt))
both_passed true bad h = refused_accepted (sym h)
both_passed false true h = refused_accepted (sym h)
both_passed false false h = (refl, (refl, h))

-- the first word of a stream
module _ (m : List ℕ) (high : ℕ) (load : Option Load) (word : ℕ) (l : List ℕ) where
  abbrev given : Emission
  given = emission_of m high word

  pub fault_many : (over_rounds m && is_template1 word) ≡ true → fault_of m high load (word ∷ l) ≡ refused 7 []
  unfolding fault_of
  fault_many p = rw p

  module _ (few : (over_rounds m && is_template1 word) ≡ false) where
    pub fault_bad : any_obeyed_badly load given.words ≡ true → fault_of m high load (word ∷ l) ≡ refused 13 []
    unfolding fault_of
    fault_bad p = rw (few, p)

    pub fault_next : any_obeyed_badly load given.words ≡ false → fault_of m high load (word ∷ l) ≡ fault_of m given.high (loads_after load given.words) l
    unfolding fault_of
    fault_next p = rw (few, p)

  -- in a sound stream it has neither fault
  pub sound_next : fault_of m high load (word ∷ l) ≡ accepted tt →
      ((over_rounds m && is_template1 word) ≡ false)
      × ((any_obeyed_badly load given.words ≡ false) × (fault_of m given.high (loads_after load given.words) l ≡ accepted tt))
  unfolding fault_of
  sound_next e = both_passed (over_rounds m && is_template1 word) (any_obeyed_badly load given.words) e

-- without a REPLAY there is 7 alone
pub plain_fault : (m : List ℕ) (high : ℕ) (load : Option Load) (l : List ℕ) → any_replay (stream_of m high l).words ≡ false →
    fault_of m high load l ≡ provided (not (bad_rounds m l)) 7 (accepted tt)
unfolding fault_of stream_of any_word
plain_fault m high load [] none = go (over_rounds m)
  where
    go : (over : Bool) → ◌≡◌ {A = Told (Unit {0})} (accepted tt) (provided (not (over && false)) 7 (accepted tt))
    go true = refl
    go false = refl
plain_fault m high load (word ∷ l) none =
    let e = emission_of m high word in
    let later = (stream_of m e.high l).words in
    let n = neither (any_replay e.words) (any_replay later) (sym (any_append _ e.words later) ∙ none) in
    rw (plain_fine load e.words n.0, plain_fault m e.high (loads_after load e.words) l n.1)
    (go (over_rounds m) (is_template1 word) (any_template1 l))
  where
    go : (over here later : Bool) →
        ◌≡◌ {A = Told (Unit {0})} (provided (not (over && here)) 7 (provided (not (over && later)) 7 (accepted tt))) (provided (not (over && (here || later))) 7 (accepted tt))
    go true true later = refl
    go true false later = refl
    go false here later = refl
