-- What any word can say: an instruction whose numbers are in range, or 2 or 3; and which instructions work on the control part.
use Prim.Native.Nat.{ℕ, ◌+◌, ◌*◌, ◌<◌}
use mathlib.Core.Path.{◌≡◌, refl}
use mathlib.Core.Bool.{Bool, true, not, ◌&&◌}
use mathlib.Core.List.{[]}
use mathlib.Core.Logic.{◌⊎◌, inl, inr}
use lib.Dec.{ltb}
use native.Mathlib.Omega.{arith}
use borrow.Author.Rules.{rules}
use borrow.Author.Tests.{leb-true, ltb-true}
use Rattle.bits.specs.Field.{field, flag}
use Rattle.bits.proofs.Choices.{cond_both, cond_cases, and_left, and_right}
use Rattle.machine.specs.Sizes.{thread_gprs, bank_words, mutex_count}
use Rattle.machine.specs.Answers.{Told, accepted, refused, provided}
use Rattle.word_rules.specs.declared.instruction.Instruction.{Instruction}
use Rattle.word_rules.specs.declared.instruction.Instruction.TheVariants.{Nop, Cell, Bank, Scalar, Sync, Config}
use Rattle.word_rules.specs.ScalarWords.{operand_b_of}
use Rattle.word_rules.specs.Marks.{view_rows}
use Rattle.word_rules.specs.CellWords.{no_addr_mod, place_in_rows}
use Rattle.word_rules.specs.Table.{table, control_rows, store_rows, said, decode_of}
use Rattle.word_rules.specs.InRange.{OperandInRange, PlaceInView, DecodedInRange}
use Rattle.word_rules.proofs.Rows.{Each, each_said}

-- ---- in range

-- an answer behind a test, where the test may be used
behind : (b : Bool) (n : ℕ) (d : Told Instruction) → (b ≡ true → DecodedInRange d) → DecodedInRange (provided b n d)
behind b n d fits = cond_cases DecodedInRange b fits (λ h. tt)

pub operand_b_in_range : (w : ℕ) → OperandInRange (operand_b_of w)
operand_b_in_range w = cond_both OperandInRange (flag 23 w) (search rules) (search rules)

pub place_in_view : (mode : ℕ) (wide : Bool) (place : ℕ) → place_in_rows (view_rows wide) mode place ≡ true → PlaceInView mode wide place
place_in_view mode wide place h =
    record {
      row = λ e. ltb-true place (view_rows wide) (rw e at h);
      sixteen = λ e. leb-true (16 * place + 16) (view_rows wide) (rw e at h);
      half = λ e. let p = leb-true place 1 (rw e at h) in omega arith;
    }

rows_in_range : (w : ℕ) → Each DecodedInRange table w
rows_in_range w =
    -- NOP, TRNSPSRCB, MOVB2A, ZEROACC, CLEARDVALID, SETDVALID
    (
      tt,
      (
        tt,
        (
          behind (no_addr_mod w) 2 _ (λ h. search rules),
          (
            behind (no_addr_mod w) 2 _ (λ h. behind (place_in_rows (view_rows (flag 18 w)) (field 19 2 w) (field 0 14 w)) 3 _
                (λ p. (search rules, place_in_view (field 19 2 w) (flag 18 w) (field 0 14 w) p))),
            (
              tt,
              (
                tt,
                -- SETDMAREG, ADDDMAREG, MULDMAREG, DMANOP
                (
                  behind (not (flag 7 w)) 2 _ (λ h. search rules),
                  (
                    (search rules, search rules, operand_b_in_range w),
                    (
                      (search rules, search rules, operand_b_in_range w),
                      (
                        tt,
                        -- ATGETM, ATRELM, STALLWAIT, SEMINIT, SEMPOST, SEMGET, SEMWAIT
                        (
                          behind (ltb (field 0 16 w) mutex_count) 3 _ (λ h. ltb-true (field 0 16 w) mutex_count h),
                          (
                            behind (ltb (field 0 16 w) mutex_count) 3 _ (λ h. ltb-true (field 0 16 w) mutex_count h),
                            (
                              search rules,
                              (
                                search rules,
                                (
                                  search rules,
                                  (
                                    search rules,
                                    (
                                      search rules,
                                      -- WRCFG, RDCFG, SETC16, RMWCIB0 to RMWCIB3
                                      (
                                        behind (ltb (field 0 11 w) bank_words) 3 _ (λ h. (search rules, ltb-true (field 0 11 w) bank_words h)),
                                        (
                                          behind (ltb (field 16 8 w) thread_gprs && ltb (field 0 11 w) bank_words) 3 _ (λ h. target_in_range w h),
                                          (search rules, (search rules, (search rules, (search rules, (search rules, tt))))),
                                        ),
                                      ),
                                    ),
                                  ),
                                ),
                              ),
                            ),
                          ),
                        ),
                      ),
                    ),
                  ),
                ),
              ),
            ),
          ),
        ),
      ),
    )
  where
    target_in_range : (w : ℕ) → (ltb (field 16 8 w) thread_gprs && ltb (field 0 11 w) bank_words) ≡ true → (field 16 8 w < thread_gprs) × (field 0 11 w < bank_words)
    target_in_range w h =
        let g = ltb (field 16 8 w) thread_gprs in
        let i = ltb (field 0 11 w) bank_words in
        (ltb-true (field 16 8 w) thread_gprs (and_left g i h), ltb-true (field 0 11 w) bank_words (and_right g i h))

-- of every word
pub decode_in_range : (w : ℕ) → DecodedInRange (decode_of w)
unfolding decode_of
decode_in_range w = each_said DecodedInRange table (field 24 8 w) w (rows_in_range w) tt

-- ---- which instruction

-- of what is accepted; what is refused says nothing
abbrev pub Only : (Instruction → Type 0) → Told Instruction → Type 0
Only P (accepted i) = P i
Only P (refused n vs) = Unit

behind_only : (P : Instruction → Type 0) (b : Bool) (n : ℕ) (d : Told Instruction) → Only P d → Only P (provided b n d)
behind_only P b n d p = cond_both (Only P) b p tt

-- the words that work on the control part
abbrev pub OnControl : Instruction → Type 0
OnControl Nop = ⊥
OnControl (Cell x) = ⊥
OnControl (Bank x) = Unit
OnControl (Scalar x) = ⊥
OnControl (Sync x) = Unit
OnControl (Config x) = ⊥

-- the words that leave it alone
abbrev pub OnStores : Instruction → Type 0
OnStores Nop = Unit
OnStores (Cell x) = Unit
OnStores (Bank x) = ⊥
OnStores (Scalar x) = Unit
OnStores (Sync x) = ⊥
OnStores (Config x) = Unit

pub control_only : (op w : ℕ) → Only OnControl (said control_rows op w)
control_only op w =
    each_said (Only OnControl) control_rows op w
    (tt, (tt, (behind_only OnControl (ltb (field 0 16 w) mutex_count) 3 _ tt, (behind_only OnControl (ltb (field 0 16 w) mutex_count) 3 _ tt, (tt, (tt, (tt, (tt, (tt, tt))))))))) tt

pub store_only : (op w : ℕ) → Only OnStores (said store_rows op w)
store_only op w =
    each_said (Only OnStores) store_rows op w
    -- NOP and the scalar words
    (
      tt,
      (
        behind_only OnStores (not (flag 7 w)) 2 _ tt,
        (
          tt,
          (
            tt,
            (
              tt,
              -- the config words
              (
                behind_only OnStores (ltb (field 0 11 w) bank_words) 3 _ tt,
                (
                  behind_only OnStores (ltb (field 16 8 w) thread_gprs && ltb (field 0 11 w) bank_words) 3 _ tt,
                  (
                    tt,
                    (
                      tt,
                      (
                        tt,
                        (
                          tt,
                          (
                            tt,
                            -- TRNSPSRCB, MOVB2A, ZEROACC
                            (
                              tt,
                              (
                                behind_only OnStores (no_addr_mod w) 2 _ tt,
                                (
                                  behind_only OnStores (no_addr_mod w) 2 _ (behind_only OnStores (place_in_rows (view_rows (flag 18 w)) (field 19 2 w) (field 0 14 w)) 3 _ tt),
                                  tt,
                                ),
                              ),
                            ),
                          ),
                        ),
                      ),
                    ),
                  ),
                ),
              ),
            ),
          ),
        ),
      ),
    ) tt

-- ---- which refusal

abbrev pub TwoOrThree : {A : Type 0} → Told A → Type 0
TwoOrThree (accepted a) = Unit
TwoOrThree (refused n vs) = ((n ≡ 2) ⊎ (n ≡ 3)) × (vs ≡ [])

by_2 : (b : Bool) (d : Told Instruction) → TwoOrThree d → TwoOrThree (provided b 2 d)
by_2 b d p = cond_both TwoOrThree b p (inl refl, refl)

by_3 : (b : Bool) (d : Told Instruction) → TwoOrThree d → TwoOrThree (provided b 3 d)
by_3 b d p = cond_both TwoOrThree b p (inr refl, refl)

-- a word is refused by 2 or 3 alone
pub two_or_three : (w : ℕ) → TwoOrThree (decode_of w)
unfolding decode_of
two_or_three w =
    each_said TwoOrThree table (field 24 8 w) w (
      tt,
      (
        tt,
        (
          by_2 (no_addr_mod w) _ tt,
          (
            by_2 (no_addr_mod w) _ (by_3 (place_in_rows (view_rows (flag 18 w)) (field 19 2 w) (field 0 14 w)) _ tt),
            (
              tt,
              (
                tt,
                (
                  by_2 (not (flag 7 w)) _ tt,
                  (
                    tt,
                    (
                      tt,
                      (
                        tt,
                        (
                          by_3 (ltb (field 0 16 w) mutex_count) _ tt,
                          (
                            by_3 (ltb (field 0 16 w) mutex_count) _ tt,
                            (
                              tt,
                              (
                                tt,
                                (
                                  tt,
                                  (
                                    tt,
                                    (
                                      tt,
                                      (by_3 (ltb (field 0 11 w) bank_words) _ tt, (by_3 (ltb (field 16 8 w) thread_gprs && ltb (field 0 11 w) bank_words) _ tt, (tt, (tt, (tt, (tt, (tt, tt))))))),
                                    ),
                                  ),
                                ),
                              ),
                            ),
                          ),
                        ),
                      ),
                    ),
                  ),
                ),
              ),
            ),
          ),
        ),
      ),
    )
    (inl refl, refl)
