-- The fixed texts of the programs' output, as bytes.
use Rattle.std.specs.Prelude.{ℕ, List, [], ◌∷◌}

-- `end` and a space
abbrev pub end_text : List ℕ
end_text = 101 ∷ 110 ∷ 100 ∷ 32 ∷ []

-- `finished`
abbrev pub finished_text : List ℕ
finished_text = 102 ∷ 105 ∷ 110 ∷ 105 ∷ 115 ∷ 104 ∷ 101 ∷ 100 ∷ []

-- `stuck`
abbrev pub stuck_text : List ℕ
stuck_text = 115 ∷ 116 ∷ 117 ∷ 99 ∷ 107 ∷ []

-- `budget`
abbrev pub budget_text : List ℕ
budget_text = 98 ∷ 117 ∷ 100 ∷ 103 ∷ 101 ∷ 116 ∷ []

-- `refused` and a space
abbrev pub refused_text : List ℕ
refused_text = 114 ∷ 101 ∷ 102 ∷ 117 ∷ 115 ∷ 101 ∷ 100 ∷ 32 ∷ []

-- `rejected` and a space
abbrev pub rejected_text : List ℕ
rejected_text = 114 ∷ 101 ∷ 106 ∷ 101 ∷ 99 ∷ 116 ∷ 101 ∷ 100 ∷ 32 ∷ []

-- `turns` and a space
abbrev pub turns_text : List ℕ
turns_text = 116 ∷ 117 ∷ 114 ∷ 110 ∷ 115 ∷ 32 ∷ []

-- `waits` and a space, after a space
abbrev pub waits_text : List ℕ
waits_text = 32 ∷ 119 ∷ 97 ∷ 105 ∷ 116 ∷ 115 ∷ 32 ∷ []

-- `next` and a space
abbrev pub next_text : List ℕ
next_text = 110 ∷ 101 ∷ 120 ∷ 116 ∷ 32 ∷ []

-- `bad record at` and a space
abbrev pub bad_record_text : List ℕ
bad_record_text = 98 ∷ 97 ∷ 100 ∷ 32 ∷ 114 ∷ 101 ∷ 99 ∷ 111 ∷ 114 ∷ 100 ∷ 32 ∷ 97 ∷ 116 ∷ 32 ∷ []

-- `bad image at` and a space
abbrev pub bad_image_text : List ℕ
bad_image_text = 98 ∷ 97 ∷ 100 ∷ 32 ∷ 105 ∷ 109 ∷ 97 ∷ 103 ∷ 101 ∷ 32 ∷ 97 ∷ 116 ∷ 32 ∷ []
