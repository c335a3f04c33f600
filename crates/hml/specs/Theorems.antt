-- What is proved of the logic, of bisimilarity, of shortest runs and of distinguishing formulas. Assumes nothing.
use Rattle.std.specs.Prelude.{◌≡◌, ℕ, ◌<◌, ◌≤◌, ◌⊎◌, ◌↔◌, List, length}
use Rattle.lts.specs.Lts.{Lts, Move}
use Rattle.hml.specs.Logic.{Formula, Sat, steps, Separates}
use Rattle.hml.specs.Bisimilarity.{Bisimilar, Agree}
use Rattle.hml.specs.Runs.{Nearest, Never, Leads}
use Rattle.hml.specs.Distinguishing.{LinesFor, formula_of_lines}
use Rattle.hml.specs.declared.step.Step.{Step}
use Rattle.hml.specs.declared.line.Line.{Line}

-- Every move leads to one of the finitely many states.
abbrev pub Closed : Lts → Type 0
Closed m = (s a t : ℕ) → Move m s a t → t < m.states

-- Bisimilar states are exactly those that no formula separates, whatever its size.
abbrev pub HennessyMilner : Type 0
HennessyMilner = (m : Lts) → Closed m → (s t : ℕ) → s < m.states → t < m.states → Bisimilar m s t ↔ ((f : Formula) → ¬ Separates m f s t)

-- States agree to depth r exactly when no formula of at most r nested steps separates them.
abbrev pub AgreementIsBySteps : Type 0
AgreementIsBySteps = (m : Lts) (r s t : ℕ) → Agree m r s t ↔ ((f : Formula) → steps f ≤ r → ¬ Separates m f s t)

-- Bisimilar states are exactly those that agree to every depth.
abbrev pub BisimilarIsEveryDepth : Type 0
BisimilarIsEveryDepth = (m : Lts) → Closed m → (s t : ℕ) → s < m.states → t < m.states → Bisimilar m s t ↔ ((r : ℕ) → Agree m r s t)

-- A formula is reached in some fewest number of moves, or never.
abbrev pub ReachedOrNever : Type 0
ReachedOrNever = (m : Lts) → Closed m → (f : Formula) (s : ℕ) → s < m.states → ((n : ℕ) × Nearest m f s n) ⊎ Never m f s

-- Where a formula is reached, the run that takes the first nearer way at each state exists and is of the fewest moves.
abbrev pub FirstNearerRunExists : Type 0
FirstNearerRunExists = (m : Lts) (f : Formula) (s n : ℕ) → Nearest m f s n → (path : List Step) × Leads m f s path × (length path ≡ n)

-- It is of the fewest moves, and it is the only one.
abbrev pub FirstNearerRunIsOne : Type 0
FirstNearerRunIsOne = (m : Lts) (f : Formula) (s : ℕ) (p q : List Step) → Leads m f s p → Leads m f s q → Nearest m f s (length p) × (p ≡ q)

-- From bisimilar states a formula is reached in the same fewest number of moves, or never from both.
abbrev pub BisimilarReachAlike : Type 0
BisimilarReachAlike = (m : Lts) (f : Formula) (s t : ℕ) → Bisimilar m s t → ((n : ℕ) → Nearest m f s n ↔ Nearest m f t n) × (Never m f s ↔ Never m f t)

-- Two states that are not bisimilar have the lines of a distinguishing formula.
abbrev pub LinesExist : Type 0
LinesExist = (m : Lts) → Closed m → (s t : ℕ) → s < m.states → t < m.states → ¬ Bisimilar m s t → (ls : List Line) × LinesFor m s t ls

-- They have only these.
abbrev pub LinesAreOne : Type 0
LinesAreOne = (m : Lts) (s t : ℕ) (ls ks : List Line) → LinesFor m s t ls → LinesFor m s t ks → ls ≡ ks

-- The formula of the lines holds of the first state and fails of the second, and no formula that separates the two
-- has fewer nested steps.
abbrev pub LinesDistinguish : Type 0
LinesDistinguish =
    (m : Lts) (s t : ℕ) (ls : List Line) → LinesFor m s t ls
    → Sat m s (formula_of_lines ls) × (¬ Sat m t (formula_of_lines ls)) × ((f : Formula) → Separates m f s t → steps (formula_of_lines ls) ≤ steps f)
