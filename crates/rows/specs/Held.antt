-- What the values of the reader stand for. Assumes nothing.
use Rattle.std.specs.Prelude.{◌≡◌, ℕ, List, map, length, Some, None, Option}
use Rattle.actions.specs.Actions.{number_of}
use Rattle.rows.specs.Format.{Transition, IsRow}
use Rattle.rows.specs.declared.columns.Columns.{Columns}
use Rattle.rows.specs.declared.fields.Fields.{Fields}
use Rattle.rows.specs.declared.row.Row.{Row}
use Rattle.rows.specs.declared.state.State.{State}

-- The number of a state.
abbrev pub state_number : State → ℕ
state_number s = s.number

-- The fields, in order.
abbrev pub held : Fields → List (List ℕ)
held f = map (λ part. part.now) f.parts.items

-- What a row says.
abbrev pub transition_of : Row → Transition
transition_of r = record { from = r.from.number; action = number_of r.action; to = r.to.number }

-- What fields hold under some columns, where they are as many as the header's.
abbrev pub RowHeld : Columns → List (List ℕ) → Option Row → Type 0
RowHeld c fs None = length fs ≡ c.width → (t : Transition) → ¬ IsRow c fs t
RowHeld c fs (Some row) = length fs ≡ c.width → IsRow c fs (transition_of row)
