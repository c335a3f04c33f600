-- The lines of a sheet. Assumes nothing.
use Rattle.std.specs.Prelude.{◌≡◌, ℕ, suc, ◌≤◌, Bool, cond, List, [], ◌∷◌, ◌++◌, length, ◌==◌}
use Rattle.std.specs.List.{onto_first}
use Rattle.sheet.specs.Parts.{begins, Lacks}

-- The text is these lines, each ended by byte 10, the last one by the end where it is not empty. A final byte 10 begins
-- no further line.
pub data Lines : List ℕ → List (List ℕ) → Type 0 where
  none : Lines [] []
  last : {l : List ℕ} → Lacks 10 l → 1 ≤ length l → Lines l (l ∷ [])
  more : {l s : List ℕ} {ls : List (List ℕ)} → Lacks 10 l → Lines s ls → Lines (l ++ 10 ∷ s) (l ∷ ls)

-- The same lines by a function.
abbrev pub lines_of : List ℕ → List (List ℕ)
lines_of [] = []
lines_of (b ∷ bs) = cond (b == 10) ([] ∷ lines_of bs) (onto_first b (lines_of bs))

-- Every text has lines, and only these.
abbrev pub LinesAreFound : Type 0
LinesAreFound = (s : List ℕ) → Lines s (lines_of s) × ((ls : List (List ℕ)) → Lines s ls → ls ≡ lines_of s)

-- A remark begins with a semicolon.
abbrev pub is_remark : List ℕ → Bool
is_remark l = begins 59 l

-- How many empty lines stand first.
abbrev pub blanks : List (List ℕ) → ℕ
blanks [] = 0
blanks ([] ∷ ls) = suc (blanks ls)
blanks ((b ∷ l) ∷ ls) = 0
