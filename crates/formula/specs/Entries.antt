-- Formulas as lists of entries, and what appending a list leaves. Assumes nothing.
use Rattle.std.specs.Prelude.{ℕ, ◌+◌, ◌<◌, ◌≤◌, List, [], ◌∷◌, ◌++◌, map, length, slice_index_or}
use Rattle.hml.specs.Logic.{Formula}
use Rattle.hml.specs.Logic.Formula.{tru, fls, both, either, may, must}
use Rattle.formula.specs.declared.entry.Entry.{Entry}
use Rattle.formula.specs.declared.entry.Entry.TheVariants.{True, False, And, Or, May, Must}

-- The formula of an entry, given those of the entries before it.
abbrev pub formula_of : List Formula → Entry → Formula
formula_of fs True = tru
formula_of fs False = fls
formula_of fs (And i j) = both (slice_index_or fs i tru) (slice_index_or fs j tru)
formula_of fs (Or i j) = either (slice_index_or fs i tru) (slice_index_or fs j tru)
formula_of fs (May a i) = may a (slice_index_or fs i tru)
formula_of fs (Must a i) = must a (slice_index_or fs i tru)

-- The formulas fs, and behind them those of the entries es.
abbrev pub formulas : List Formula → List Entry → List Formula
formulas fs [] = fs
formulas fs (e ∷ es) = formulas (fs ++ formula_of fs e ∷ []) es

-- The formula that entry n of a list stands for.
abbrev pub formula_at : List Entry → ℕ → Formula
formula_at es n = slice_index_or (formulas [] es) n tru

-- An entry that stands at place n names only earlier ones, and an action up to 52.
abbrev pub Sound : ℕ → Entry → Type 0
Sound n True = Unit {0}
Sound n False = Unit {0}
Sound n (And i j) = (i < n) × (j < n)
Sound n (Or i j) = (i < n) × (j < n)
Sound n (May a i) = (a ≤ 52) × (i < n)
Sound n (Must a i) = (a ≤ 52) × (i < n)

-- Every entry that stands before place n of the list is sound there.
abbrev pub SoundBelow : ℕ → List Entry → Type 0
SoundBelow n es = (k : ℕ) → k < n → Sound k (slice_index_or es k True)

-- Every entry of the list is sound.
abbrev pub AllSound : List Entry → Type 0
AllSound es = SoundBelow (length es) es

-- The entry with each entry number in it raised by n.
abbrev pub raised : ℕ → Entry → Entry
raised n True = True
raised n False = False
raised n (And i j) = And (n + i) (n + j)
raised n (Or i j) = Or (n + i) (n + j)
raised n (May a i) = May a (n + i)
raised n (Must a i) = Must a (n + i)

-- The entries held once a list is appended: behind those held before, its numbers raised by their count.
abbrev pub appended : List Entry → List Entry → List Entry
appended es list = es ++ map (raised (length es)) list
