use Prim.Native.Nat.{ℕ, ◌+◌}
use mathlib.Core.Path.{ap}
use lib.Dec.{eqb}
use lib.ListN.{drop}
use Rattle.machine.specs.Sizes.{word_most}
use Rattle.format.specs.Format.{numbers}
use Rattle.format.proofs.Fields.{across_of, inside}
use Rattle.expander_rules.specs.Sizes.{slot_count}
use Rattle.program_carried.specs.CarriedFormat.{slot_bytes, carried_bytes, load_format}
use Rattle.program_carried.proofs.is_sound.Goals as goal

pub returns : goal.returns
returns c =
    let at = c.args.at in
    let s = c.args.s.now in
    let slots = inside (numbers slot_count 4 word_most).good 2 at s c.fields-slots.ensures.0 in
    let load = inside load_format.good slot_bytes 2 (drop at s) (inside load_format.good (2 + slot_bytes) at s c.load_good-load.ensures.0) in
    ap (λ (n : ℕ). eqb n carried_bytes)
    (across_of 2 c.good_across-2.ensures.0 c.field-mask.ensures.0 (across_of slot_bytes c.good_across.ensures.0 slots load))
