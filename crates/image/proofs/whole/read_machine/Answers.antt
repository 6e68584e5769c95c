use Prim.Native.Nat.{ℕ}
use mathlib.Core.Path.{ap, ◌∙◌}
use lib.ListN.{drop}
use Rattle.bits.specs.Bytes.{le}
use Rattle.format.specs.Format.{many_get}
use Rattle.image_layout.specs.Places.{settings_at}
use Rattle.image.proofs.whole.read_machine.Goals as goal

pub returns : goal.returns
returns c =
    let x = c.read_run.ensures ∙ ap (λ (n : ℕ). many_get (le 2) 2 n (drop settings_at c.args.s.now)) c.told-settings in
    let w = c.read_word_stores.ensures in
    let d = c.read_dest.ensures in
    let k = c.read_sources.ensures in
    λ i.
    record {
      control = c.read_control.ensures i;
      settings = x i;
      kept = record { gprs = (w i).0; config = (w i).1; dest = record { cells = (d i).0; marks = (d i).1 }; src_a = (k i).0; src_b = (k i).1 };
    }
