-- In every setting, each view covers every storage row exactly once.
use Rattle.std.specs.Prelude.{◌<◌, ◌≡◌, Bool, cond}
use Rattle.dest.specs.declared.flags.Flags.{Flags}
use Rattle.dest.specs.declared.rows.View16Row.{View16Row}
use Rattle.dest.specs.declared.rows.View32Row.{View32Row}
use Rattle.dest.specs.declared.rows.StorageRow.{StorageRow}
use Rattle.dest.specs.Rows.{rows16, rows32, storage_rows}
use Rattle.dest.specs.Maps.{storage16, high32, low32}

-- exactly one of the places that are `In` is taken to q
pub record Once {A : Type 0} (In : A → Type 0) (map : A → StorageRow) (q : StorageRow) : Type 0 where
  pub place : A
  pub within : In place
  pub there : map place ≡ q
  pub alone : (a : A) → In a → map a ≡ q → a ≡ place

-- the places that are `In` are taken to the storage rows, and to each of them exactly once
pub record Covers {A : Type 0} (In : A → Type 0) (map : A → StorageRow) : Type 0 where
  pub inside : (a : A) → In a → (map a).0 < storage_rows
  pub once : (q : StorageRow) → q.0 < storage_rows → Once In map q

abbrev pub In16View : View16Row → Type 0
In16View r = r.0 < rows16

-- one of a pair: the high or the low halves of a 32-bit view row
pub record Half : Type 0 where
  pub low : Bool
  pub row : View32Row

abbrev pub In32View : Half → Type 0
In32View h = h.row.0 < rows32

abbrev pub storage32 : Flags → Half → StorageRow
storage32 f h = cond h.low (low32 f h.row) (high32 f h.row)

pub record ViewsCover : Type 0 where
  -- a permutation of 0 to 1,023, with remap and without
  pub view16 : (f : Flags) → Covers In16View (storage16 f)
  -- the 512 pairs, in each of the four settings
  pub view32 : (f : Flags) → Covers In32View (storage32 f)
