-- Two states that are not bisimilar: what is promised of them, and a move that one cannot match. Assumes nothing.
use Rattle.std.specs.Prelude.{ℕ, ◌<◌, not, List, Option}
use Rattle.std.specs.List.{find}
use Rattle.lts.specs.Lts.{Lts}
use Rattle.hml.specs.Bisimilarity.{Bisimilar}
use Rattle.refine.specs.Classes.{Refined}
use Rattle.refine.specs.Codes.{moves, code_of, coded}
use Rattle.refine.specs.declared.classes.Classes.{Classes}

-- P holds where the classes are refined, and s and t are states that are not bisimilar.
abbrev pub WhereUnlike : Lts → Classes → ℕ → ℕ → Type 0 → Type 0
WhereUnlike m c s t P = Refined m c → s < m.states → t < m.states → ¬ Bisimilar m s t → P

-- The first move of s whose code no move of t has.
abbrev pub first_unlike : Lts → List ℕ → ℕ → ℕ → Option (ℕ × ℕ)
first_unlike m names s t = find (λ p. not (coded names (moves (m.ways t)) (code_of names p))) (moves (m.ways s))
