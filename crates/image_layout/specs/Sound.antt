-- What is answered of bytes that are to be an image of some form.
use Rattle.std.specs.Prelude.{cond, List, [], ◌∷◌, ℕ, Result, Ok, Err}
use Rattle.machine.specs.Answers.{Told, refused}
use Rattle.format.specs.Format.{Format, accepts}

-- whether bytes are one value of a form, or how far they are good
abbrev pub scanned : {A : Type 0} → Format A → List ℕ → Result (Unit {0}) ℕ
scanned f bs = cond (accepts f bs) (Ok tt) (Err (f.good bs))

-- 9 with the offset of the first field missing, cut or out of range, or with the form's size for extra bytes
abbrev pub provided_sound : {A B : Type 0} → Format A → List ℕ → Told B → Told B
provided_sound f bs rest = cond (accepts f bs) rest (refused 9 (f.good bs ∷ []))
