-- Signatures: for each move of a state its action and the class of its target. States with one signature agree to one
-- depth more than the classes say. Assumes nothing.
use Rattle.std.specs.Prelude.{◌≡◌, ℕ, zero, suc, ◌+◌, ◌*◌, ◌%◌, Bool, cond, ◌&&◌, ◌==◌, List}
use Rattle.std.specs.List.{list_all}
use Rattle.lts.specs.Lts.{Lts}
use Rattle.refine.specs.Codes.{moves, code_of, coded}
use Rattle.refine.specs.Marks.{marked}
use Rattle.refine.specs.declared.marks.Marks.{Marks}

-- The code is in the signature of s.
abbrev pub signed : Lts → List ℕ → ℕ → ℕ → Bool
signed m names s = coded names (moves (m.ways s))

-- s and t have the same signature.
abbrev pub Alike : Lts → List ℕ → ℕ → ℕ → Type 0
Alike m names s t = (i : ℕ) → signed m names s i ≡ signed m names t i

-- The sum of the weights of the numbers below n that pass the test.
unfoldable pub weighed : (ℕ → ℕ) → (ℕ → Bool) → ℕ → ℕ
weighed weight test zero = 0
weighed weight test (suc n) = weighed weight test n + cond (test n) (weight n) 0

-- The weight of a code.
unfoldable pub weight_of : ℕ → ℕ
weight_of n = let x = (n * 2654435761 + 40503) % 4294967291 in (x * x) % 4294967291 + 1

-- The signature of s has this weight.
abbrev pub Weighs : Lts → List ℕ → ℕ → ℕ → Type 0
Weighs m names s weight = weight ≡ weighed weight_of (signed m names s) 108545

-- The codes of these moves are marked, and no others, and they have this weight.
pub record Signed (names : List ℕ) (ps : List (ℕ × ℕ)) (marks : Marks) (weight : ℕ) : Type 0 where
  pub codes : (i : ℕ) → marked marks i ≡ coded names ps i
  pub weighs : weight ≡ weighed weight_of (coded names ps) 108545

-- Whether the weight of t is the one sought, and each code of t is marked.
abbrev pub passes : Lts → List ℕ → Marks → ℕ → ℕ → ℕ → Bool
passes m names marks sought t weight = weight == sought && list_all (λ p. marked marks (code_of names p)) (moves (m.ways t))
