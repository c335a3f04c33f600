-- Worked examples of the definitions. Assumes nothing.
use Rattle.std.specs.Prelude.{ℕ, List, [], ◌∷◌, length, Some, None, slice_index_or}
use Rattle.lts.specs.Lts.{Lts, Way}
use Rattle.lts.specs.Joined.{joined}
use Rattle.hml.specs.Logic.{Formula}
use Rattle.hml.specs.Logic.Formula.{tru, fls, may, must}
use Rattle.hml.specs.Bisimilarity.{Bisimilar}
use Rattle.hml.specs.Traces.{TraceEqual}
use Rattle.hml.specs.Runs.{Leads, Never}
use Rattle.hml.specs.Distinguishing.{LinesFor, FirstApart}
use Rattle.hml.specs.declared.step.Step.{Step}
use Rattle.hml.specs.declared.line.Line.{Line}
use Rattle.hml.specs.declared.line.Modality.{Modality}
use Rattle.hml.specs.declared.line.Modality.TheVariants.{May, Must}

-- A system that starts at 0, by the ways of each state.
abbrev pub listed : List (List Way) → Lts
listed rows = record { states = length rows; start = 0; ways = λ s. slice_index_or rows s [] }

abbrev pub line' : Modality → ℕ → ℕ → ℕ → Line
line' o a first count = record { modality = o; action = a; first = first; count = count }

abbrev pub step' : ℕ → ℕ → Step
step' a t = record { action = a; target = t }

-- A machine that takes a coin (action 3) and then offers coffee (32) and tea (46), beside one that has chosen between
-- the two once the coin is in: states 0 and 1, and 2 to 4.
abbrev pub coffee_and_tea : Lts
coffee_and_tea =
    joined (listed ((Some (3, 1) ∷ []) ∷ (Some (32, 0) ∷ Some (46, 0) ∷ []) ∷ []))
    (listed ((Some (3, 1) ∷ Some (3, 2) ∷ []) ∷ (Some (32, 0) ∷ []) ∷ (Some (46, 0) ∷ []) ∷ []))

-- A lock that receives a (1) and then sends b (28), beside its equal with a shut way more: states 0 and 1, and 2 and 3.
abbrev pub two_locks : Lts
two_locks =
    joined (listed ((Some (1, 1) ∷ []) ∷ (Some (28, 0) ∷ []) ∷ []))
    (listed ((None ∷ Some (1, 1) ∷ []) ∷ (Some (28, 0) ∷ []) ∷ []))

-- Three states in a row, each move by a (1).
abbrev pub chain : Lts
chain = listed ((Some (1, 1) ∷ []) ∷ (Some (1, 2) ∷ []) ∷ [] ∷ [])

-- A fact about the states of a system.
pub data Fact : Type 0 where
  -- the two are bisimilar
  alike : ℕ → ℕ → Fact
  -- the two agree to one depth less than this one, and not to this one
  apart : ℕ → ℕ → ℕ → Fact
  -- the lines of the distinguishing formula of the two
  told : ℕ → ℕ → List Line → Fact
  -- the shortest run to the formula
  reached : Formula → ℕ → List Step → Fact
  -- the formula is never reached
  never : Formula → ℕ → Fact

abbrev pub Holds : Lts → Fact → Type 0
Holds m (alike s t) = Bisimilar m s t
Holds m (apart r s t) = FirstApart m r s t × ¬ Bisimilar m s t
Holds m (told s t ls) = LinesFor m s t ls
Holds m (reached f s path) = Leads m f s path
Holds m (never f s) = Never m f s

abbrev pub Each : List (Lts × Fact) → Type 0
Each [] = Unit {0}
Each (x ∷ xs) = Holds x.0 x.1 × Each xs

-- No way of doing a.
abbrev pub stuck : Formula
stuck = must 1 fls

abbrev pub worked : List (Lts × Fact)
worked =
    (coffee_and_tea, apart 2 0 2)
    ∷ (coffee_and_tea, told 0 2 (line' May 3 1 2 ∷ line' May 46 0 0 ∷ line' May 32 0 0 ∷ []))
    ∷ (coffee_and_tea, told 2 0 (line' May 3 1 1 ∷ line' Must 46 0 0 ∷ []))
    ∷ (two_locks, alike 0 2)
    ∷ (two_locks, apart 1 0 3)
    ∷ (chain, reached stuck 0 (step' 1 1 ∷ step' 1 2 ∷ []))
    ∷ (chain, reached stuck 2 [])
    ∷ (chain, never (may 27 tru) 0)
    ∷ []

abbrev pub WorkedFactsHold : Type 0
WorkedFactsHold = Each worked

-- Equal traces are not likeness: the two machines can do the same sequences of actions.
abbrev pub TracesDoNotDecide : Type 0
TracesDoNotDecide = TraceEqual coffee_and_tea 0 2 × ¬ Bisimilar coffee_and_tea 0 2
