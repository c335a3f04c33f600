-- What holds while the rows of a sheet are read. Assumes nothing.
use Rattle.std.specs.Prelude.{◌≡◌, ℕ, ◌≤◌, true, List, [], ◌++◌, map, length, Some, None, Option, Ok, Err, Result}
use Rattle.std.specs.Borrow.{Bor}
use Rattle.sheet.specs.Lines.{lines_of}
use Rattle.sheet.specs.Reading.{unread}
use Rattle.sheet.specs.declared.line.Line.TheVariants.{Header}
use Rattle.sheet.specs.declared.line.Numbered.{Numbered}
use Rattle.sheet.specs.declared.lines.Lines.{Lines}
use Rattle.rows.specs.Fields.{fields_of}
use Rattle.rows.specs.Format.{Transition, IsRow, Table}
use Rattle.rows.specs.Held.{transition_of}
use Rattle.rows.specs.Verdict.{Accepted, Refused}
use Rattle.rows.specs.declared.columns.Columns.{Columns}
use Rattle.rows.specs.declared.refusal.Refusal.{Refusal}
use Rattle.rows.specs.declared.refusal.Refusal.TheVariants.{NoHeader, BadHeader, Width, BadField, TooMany}
use Rattle.rows.specs.declared.row.Row.{Row}

-- What a line is read as: a row, or the refusal of line n.
abbrev pub RowRead : Columns → List ℕ → ℕ → Result Row Refusal → Type 0
RowRead c l n (Ok row) = IsRow c (fields_of l) (transition_of row)
RowRead c l n (Err NoHeader) = ⊥
RowRead c l n (Err (BadHeader line)) = ⊥
RowRead c l n (Err (Width line)) = (line ≡ n) × ¬ (length (fields_of l) ≡ c.width)
RowRead c l n (Err (BadField line)) = (line ≡ n) × (length (fields_of l) ≡ c.width) × ((t : Transition) → ¬ IsRow c (fields_of l) t)
RowRead c l n (Err (TooMany line)) = ⊥

-- The lines of the sheet that are read, all counted, are such.
pub record Gone (s : List ℕ) (a : Lines) (Such : List (List ℕ) → Type 0) : Type 0 where
  pub before : List (List ℕ)
  pub whole : before ++ unread a ≡ lines_of s
  pub counted : a.count ≡ length before
  pub such : Such before

-- They are a table of these rows, at most 2,048.
abbrev pub Begun : List ℕ → Lines → Columns → List Row → Type 0
Begun s a c rows = Gone s a (λ before. Table c before (map transition_of rows)) × (length rows ≤ 2048)

-- The line that is given is the header, with its number; or it is something else.
abbrev pub HeaderOf : Numbered → Option (ℕ × Bor (List ℕ)) → Type 0
HeaderOf given None = (part : Bor (List ℕ)) → ¬ (given.line ≡ Header part)
HeaderOf given (Some found) = (found.0 ≡ given.number) × (given.line ≡ Header found.1)

-- The header is found: the lines read end with it. Or a refusal is due.
abbrev pub HeaderRead : List ℕ → Lines → Result Columns Refusal → Type 0
HeaderRead s a (Ok c) = Begun s a c [] × (a.headed ≡ true)
HeaderRead s a (Err e) = Refused s e

-- The whole sheet is read, or a refusal is due.
abbrev pub RowsRead : List ℕ → List Row → Result (Unit {0}) Refusal → Type 0
RowsRead s rows (Ok done) = Accepted s (map transition_of rows)
RowsRead s rows (Err e) = Refused s e
