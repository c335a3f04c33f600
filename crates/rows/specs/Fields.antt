-- The fields of a line. Assumes nothing.
use Rattle.std.specs.Prelude.{◌≡◌, ℕ, List, [], ◌∷◌, ◌++◌, ◌==◌}
use Rattle.std.specs.List.{slice_split}
use Rattle.sheet.specs.Parts.{Lacks}

-- The line is these fields, with a comma (byte 44) between each two.
pub data Fields : List ℕ → List (List ℕ) → Type 0 where
  one : {f : List ℕ} → Lacks 44 f → Fields f (f ∷ [])
  more : {f l : List ℕ} {fs : List (List ℕ)} → Lacks 44 f → Fields l fs → Fields (f ++ 44 ∷ l) (f ∷ fs)

-- The same fields by a function.
abbrev pub fields_of : List ℕ → List (List ℕ)
fields_of l = slice_split (λ b. b == 44) l

-- Every line has fields, and only these.
abbrev pub FieldsAreFound : Type 0
FieldsAreFound = (l : List ℕ) → Fields l (fields_of l) × ((fs : List (List ℕ)) → Fields l fs → fs ≡ fields_of l)
