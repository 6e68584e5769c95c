use Rattle.std.proofs.Common.{ℕ, zero, suc, ◌*◌, ◌%◌, ◌^◌, ◌<◌, ◌≡◌, refl, arith}
use Rattle.word_rules.proofs.Bytes.{byte_unit_positive, with_byte_lem, with_byte_fits}
use Rattle.word_config.proofs.merge.with_merged.Goals as goal

shifted : (k : ℕ) → k < 4 → 1 * 2 ^ (8 * k) % 4294967296 ≡ 256 ^ k
shifted zero h = refl
shifted (suc zero) h = refl
shifted (suc (suc zero)) h = refl
shifted (suc (suc (suc zero))) h = refl
shifted (suc (suc (suc (suc k)))) h = absurd (omega arith)

pub nonzero_div-from : goal.nonzero_div-from
nonzero_div-from c = rw (shifted c.args.k c.requires) (byte_unit_positive _)

pub overflow_mul-result-2 : goal.overflow_mul-result-2
overflow_mul-result-2 c = rw (shifted c.args.k c.requires) (omega (arith, with_byte_fits c.args.k c.merge-new.result c.args.x (omega arith) (omega arith) (omega arith)))

pub nonzero_rem-result : goal.nonzero_rem-result
nonzero_rem-result c = rw (shifted c.args.k c.requires) (byte_unit_positive _)

pub overflow_add-result-2 : goal.overflow_add-result-2
overflow_add-result-2 c = rw (shifted c.args.k c.requires) (omega (arith, with_byte_fits c.args.k c.merge-new.result c.args.x (omega arith) (omega arith) (omega arith)))

pub returns : goal.returns
returns c = rw (c.merge-new.ensures, shifted c.args.k c.requires, with_byte_lem)
