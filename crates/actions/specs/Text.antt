-- The text of actions. Assumes nothing.
use Rattle.std.specs.Prelude.{◌≡◌, ℕ, ◌+◌, ◌≤◌, cond, ◌↔◌, List, [], ◌∷◌, ◌++◌, Some, codes, Option, ◌==◌, nat_le}

-- How action n is written: * where it is silent, else the letter of its signal, behind ^ where it is sent.
abbrev pub action_text : ℕ → List ℕ
action_text n = cond (n == 0) (codes "*") (cond (nat_le n 26) ((n + 96) ∷ []) (codes "^" ++ (n + 70) ∷ []))

-- The bytes are read as r: as action n exactly where they are how n is written.
abbrev pub Reads : List ℕ → Option ℕ → Type 0
Reads bytes r = (n : ℕ) → (r ≡ Some n) ↔ ((n ≤ 52) × (bytes ≡ action_text n))
