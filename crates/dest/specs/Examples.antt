-- M7, M8 and M9 of document 01.
use Rattle.std.specs.Prelude.{◌≡◌, None}
use Rattle.dest.specs.Rows.{view16, view32, storage_row, row32_of}
use Rattle.dest.specs.Flags.{flags_of}
use Rattle.dest.specs.Maps.{storage16, high32, low32}

pub record DestExamples : Type 0 where
  -- remap: 8 to 32, 16 to 8, 32 to 16
  pub m7 :
      (storage16 (flags_of 1) (view16 8) ≡ storage_row 32)
      × (storage16 (flags_of 1) (view16 16) ≡ storage_row 8)
      × (storage16 (flags_of 1) (view16 32) ≡ storage_row 16)
  -- both flags off, 32-bit row 511: storage 1015 and 1023; 512 is refused
  pub m8 :
      (high32 (flags_of 0) (view32 511) ≡ storage_row 1015)
      × (low32 (flags_of 0) (view32 511) ≡ storage_row 1023)
      × (row32_of 512 ≡ None)
  -- swizzle only, row 16: 48 and 56
  pub m9 : (high32 (flags_of 2) (view32 16) ≡ storage_row 48) × (low32 (flags_of 2) (view32 16) ≡ storage_row 56)
