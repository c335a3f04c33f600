-- Lines of which the first are written. Assumes nothing.
use Rattle.std.specs.Prelude.{◌≡◌, ℕ, ◌<◌, min, List, ◌++◌, length, take, drop, Ok, Err, Result}
use Rattle.std.specs.List.{AllByRecursion}
use Rattle.lts.specs.Lts.{Lts}
use Rattle.hml.specs.Bisimilarity.{Agree}
use Rattle.hml.specs.Distinguishing.{Written, LinesFor}
use Rattle.hml.specs.declared.line.Line.{Line}
use Rattle.telling.specs.Telling.{Told}
use Rattle.telling.specs.declared.writing.TooLong.{TooLong}

-- The pair is of states, which do not agree to depth d.
abbrev pub Apart : Lts → ℕ → ℕ × ℕ → Type 0
Apart m d p = (p.0 < m.states) × (p.1 < m.states) × ¬ Agree m d p.0 p.1

-- The first i lines of (s, t) are written: these are the pairs of all lines that are given out so far. Before and after
-- are the memory.
pub record Progress (m : Lts) (s t d i : ℕ) (pairs : List (ℕ × ℕ)) (before after : List Line) : Type 0 where
  pub apart : AllByRecursion (Apart m d) pairs
  pub kept : drop i after ≡ drop i before
  -- whatever lines go on for the pairs that wait complete the lines
  pub completed : (ls : List Line) → Written m (length pairs) (drop i pairs) ls → LinesFor m s t (take i after ++ ls)

-- There are more lines than the limit.
abbrev pub TooMany : Lts → ℕ → ℕ → ℕ → Type 0
TooMany m s t limit = (ls : List Line) × LinesFor m s t ls × (limit < length ls)

-- What is told, but for making the memory blank.
abbrev pub Laid : Lts → ℕ → ℕ → List Line → List Line → Result ℕ TooLong → Type 0
Laid m s t before after (Ok n) = Told m s t before after (Ok n)
Laid m s t before after (Err long) = TooMany m s t (min (length before) 4096)
