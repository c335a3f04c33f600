-- How lines are written as text. Assumes nothing.
use Rattle.std.specs.Prelude.{ℕ, zero, suc, ◌-◌, ◌<◌, ◌≤◌, List, [], ◌++◌, All, codes, length, slice_index_or}
use Rattle.hml.specs.Logic.Formula.{tru}
use Rattle.hml.specs.Distinguishing.{lines_from}
use Rattle.hml.specs.declared.line.Modality.{Modality}
use Rattle.hml.specs.declared.line.Modality.TheVariants.{May, Must}
use Rattle.hml.specs.declared.line.Line.{Line}
use Rattle.grammar.specs.Grammar.{unary}
use Rattle.grammar.specs.Writing.{text_at}

-- The line's action is 0 to 52.
abbrev pub IsAction : Line → Type 0
IsAction l = l.action ≤ 52

-- There is a line, and each names an action.
abbrev pub HasFormula : List Line → Type 0
HasFormula ls = (0 < length ls) × All IsAction ls

-- The text of the formula of one line among others.
abbrev pub line_text : List Line → ℕ → List ℕ
line_text ls n = text_at unary (slice_index_or (lines_from 0 ls) n tru)

-- The mark that joins formulas under a modality, and the constant where there are none.
abbrev pub joint : Modality → List ℕ
joint May = codes "&"
joint Must = codes "|"

abbrev pub nothing : Modality → List ℕ
nothing May = codes "tt"
nothing Must = codes "ff"

-- k lines from one on, each behind the mark.
abbrev pub joined_some : List Line → Modality → ℕ → ℕ → List ℕ
joined_some ls m first zero = []
joined_some ls m first (suc k) = joint m ++ (line_text ls first ++ joined_some ls m (suc first) k)

abbrev pub joined_text : List Line → Modality → ℕ → ℕ → List ℕ
joined_text ls m first last = joined_some ls m first (last - first)

-- What stands under a line, by how many lines: the constant, the one line, or all in round brackets.
abbrev pub inside_some : List Line → Modality → ℕ → ℕ → List ℕ
inside_some ls m first zero = nothing m
inside_some ls m first (suc zero) = line_text ls first
inside_some ls m first (suc (suc k)) = codes "(" ++ (line_text ls first ++ (joined_some ls m (suc first) (suc k) ++ codes ")"))

abbrev pub inside_text : List Line → Modality → ℕ → ℕ → List ℕ
inside_text ls m first last = inside_some ls m first (last - first)
