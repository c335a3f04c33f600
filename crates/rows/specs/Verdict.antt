-- What is answered of a sheet: its rows, or the first rule that it breaks. Assumes nothing.
use Rattle.std.specs.Prelude.{◌≡◌, ℕ, suc, ◌≤◌, true, false, List, [], ◌∷◌, ◌++◌, length}
use Rattle.sheet.specs.Lines.{Lines}
use Rattle.rows.specs.Fields.{Fields}
use Rattle.rows.specs.Format.{Transition, IsHeader, IsRow, skipped, Table, WellFormed}
use Rattle.rows.specs.declared.columns.Columns.{Columns}
use Rattle.rows.specs.declared.refusal.Refusal.{Refusal}
use Rattle.rows.specs.declared.refusal.Refusal.TheVariants.{NoHeader, BadHeader, Width, BadField, TooMany}

abbrev pub AllSkipped : List (List ℕ) → Type 0
AllSkipped [] = Unit {0}
AllSkipped (l ∷ ls) = (skipped l ≡ true) × AllSkipped ls

-- Line n of the sheet is these fields, the lines before it are such, and it is not skipped. Lines count from 1.
pub record LineAt (s : List ℕ) (n : ℕ) (fs : List (List ℕ)) (Before : List (List ℕ) → Type 0) : Type 0 where
  pub before : List (List ℕ)
  pub line : List ℕ
  pub after : List (List ℕ)
  pub split : Lines s (before ++ line ∷ after)
  pub such : Before before
  pub content : skipped line ≡ false
  pub fields : Fields line fs
  pub number : n ≡ suc (length before)

-- The lines before line n are a table of the rows ts, at most 2,048 of them, and the fields fs are to be one row more.
abbrev pub RowAt : List ℕ → ℕ → Columns → List Transition → List (List ℕ) → Type 0
RowAt s n c ts fs = LineAt s n fs (λ before. Table c before ts) × (length ts ≤ 2048)

-- The refusal is due: what stands before the line is well-formed, and this line breaks the rule, and none listed earlier.
abbrev pub Refused : List ℕ → Refusal → Type 0
Refused s NoHeader = (ls : List (List ℕ)) × Lines s ls × AllSkipped ls
Refused s (BadHeader n) = (fs : List (List ℕ)) × LineAt s n fs AllSkipped × ((c : Columns) → ¬ IsHeader fs c)
Refused s (Width n) =
    (c : Columns) × (ts : List Transition) × (fs : List (List ℕ)) × RowAt s n c ts fs
    × ¬ (length fs ≡ c.width)
Refused s (BadField n) =
    (c : Columns) × (ts : List Transition) × (fs : List (List ℕ)) × RowAt s n c ts fs
    × (length fs ≡ c.width) × ((t : Transition) → ¬ IsRow c fs t)
Refused s (TooMany n) =
    (c : Columns) × (ts : List Transition) × (fs : List (List ℕ)) × RowAt s n c ts fs
    × ((t : Transition) × IsRow c fs t) × (length ts ≡ 2048)

-- The sheet is a table of these rows, within the limits.
abbrev pub Accepted : List ℕ → List Transition → Type 0
Accepted s ts = WellFormed s ts × (length ts ≤ 2048)

pub data Outcome : Type 0 where
  accepted : List Transition → Outcome
  refused : Refusal → Outcome

abbrev pub Verdict : List ℕ → Outcome → Type 0
Verdict s (accepted ts) = Accepted s ts
Verdict s (refused e) = Refused s e

-- A sheet has one verdict only: a table is never refused, and of several broken rules only the first is answered.
abbrev pub OneVerdict : Type 0
OneVerdict = (s : List ℕ) (o p : Outcome) → Verdict s o → Verdict s p → o ≡ p
