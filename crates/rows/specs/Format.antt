-- The format of transition tables: what a well-formed sheet is, and the rows that it holds. Assumes nothing.
use Rattle.std.specs.Prelude.{◌≡◌, ℕ, ◌<◌, ◌≤◌, Bool, true, false, List, [], ◌∷◌, length, codes, decimal, slice_index_or}
use Rattle.actions.specs.Text.{action_text}
use Rattle.sheet.specs.Lines.{Lines, is_remark}
use Rattle.rows.specs.Fields.{Fields}
use Rattle.rows.specs.declared.columns.Columns.{Columns}

-- What a row says: a move by an action from a state to a state.
pub record Transition : Type 0 where
  pub from : ℕ
  pub action : ℕ
  pub to : ℕ

-- Field k has the name, and no other field has.
pub record Once (fs : List (List ℕ)) (k : ℕ) (name : List ℕ) : Type 0 where
  pub there : k < length fs
  pub named : slice_index_or fs k [] ≡ name
  pub alone : (j : ℕ) → j < length fs → slice_index_or fs j [] ≡ name → j ≡ k

-- A header has at most 8 fields, and names each of from, act and to once.
pub record IsHeader (fs : List (List ℕ)) (c : Columns) : Type 0 where
  pub few : length fs ≤ 8
  pub width : c.width ≡ length fs
  pub from : Once fs c.from (codes "from")
  pub act : Once fs c.act (codes "act")
  pub to : Once fs c.to (codes "to")

-- The field is the number of a state in decimal, as it is written: digits alone, with no zero in front.
abbrev pub IsState : List ℕ → ℕ → Type 0
IsState f n = (n < 1024) × (f ≡ decimal n)

-- The field is the text of an action.
abbrev pub IsAction : List ℕ → ℕ → Type 0
IsAction f a = (a ≤ 52) × (f ≡ action_text a)

-- A row has as many fields as the header, and a state, an action and a state in the columns named so.
pub record IsRow (c : Columns) (fs : List (List ℕ)) (t : Transition) : Type 0 where
  pub width : length fs ≡ c.width
  pub from : IsState (slice_index_or fs c.from []) t.from
  pub act : IsAction (slice_index_or fs c.act []) t.action
  pub to : IsState (slice_index_or fs c.to []) t.to

-- Empty lines and remarks are skipped.
abbrev pub skipped : List ℕ → Bool
skipped [] = true
skipped (b ∷ l) = is_remark (b ∷ l)

-- The lines behind a header hold these rows, in order.
pub data Rows (c : Columns) : List (List ℕ) → List Transition → Type 0 where
  none : Rows c [] []
  skip : {l : List ℕ} {ls : List (List ℕ)} {ts : List Transition} → skipped l ≡ true → Rows c ls ts → Rows c (l ∷ ls) ts
  row : {l : List ℕ} {fs ls : List (List ℕ)} {t : Transition} {ts : List Transition} → skipped l ≡ false → Fields l fs → IsRow c fs t → Rows c ls ts → Rows c (l ∷ ls) (t ∷ ts)

-- The lines are a table: a header, and rows behind it.
pub data Table (c : Columns) : List (List ℕ) → List Transition → Type 0 where
  skip : {l : List ℕ} {ls : List (List ℕ)} {ts : List Transition} → skipped l ≡ true → Table c ls ts → Table c (l ∷ ls) ts
  header : {l : List ℕ} {fs ls : List (List ℕ)} {ts : List Transition} → skipped l ≡ false → Fields l fs → IsHeader fs c → Rows c ls ts → Table c (l ∷ ls) ts

-- The sheet is a well-formed table that holds these rows.
pub record WellFormed (s : List ℕ) (ts : List Transition) : Type 0 where
  pub lines : List (List ℕ)
  pub columns : Columns
  pub split : Lines s lines
  pub table : Table columns lines ts
