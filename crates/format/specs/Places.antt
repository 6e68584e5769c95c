-- For internal contracts alone: the largest place that code reckons with, so that no sum of places wraps.
use Rattle.std.specs.Prelude.{ℕ}

abbrev pub place_most : ℕ
place_most = 1000000
