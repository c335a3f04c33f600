-- The parts of a text between marks. Assumes nothing.
use Rattle.std.specs.Prelude.{ℕ, Bool, true, false, List, [], ◌∷◌, ◌==◌, ◌≢◌}
use Rattle.std.specs.List.{position_or_len}

-- How many bytes stand before the first mark, or before the end where there is none.
abbrev pub length_to : ℕ → List ℕ → ℕ
length_to mark bs = position_or_len (λ b. b == mark) bs

-- The text begins with the mark.
abbrev pub begins : ℕ → List ℕ → Bool
begins mark [] = false
begins mark (b ∷ bs) = b == mark

abbrev pub one : Bool → ℕ
one true = 1
one false = 0

-- The byte stands nowhere in the text.
abbrev pub Lacks : ℕ → List ℕ → Type 0
Lacks mark [] = Unit {0}
Lacks mark (b ∷ bs) = (b ≢ mark) × Lacks mark bs
