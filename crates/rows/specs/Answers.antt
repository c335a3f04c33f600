-- What reading a sheet answers, and what rows it leaves. Assumes nothing.
use Rattle.std.specs.Prelude.{◌≡◌, ℕ, List, [], map, Ok, Err, Result}
use Rattle.rows.specs.Format.{Transition}
use Rattle.rows.specs.Held.{transition_of}
use Rattle.rows.specs.Verdict.{Accepted, Refused}
use Rattle.rows.specs.declared.refusal.Refusal.{Refusal}
use Rattle.rows.specs.declared.rows.Rows.{Rows}

-- The rows held, in order.
abbrev pub transitions : Rows → List Transition
transitions rows = map transition_of rows.items

-- A table is accepted with its rows. Any other sheet is refused, and no rows are left.
abbrev pub Answered : List ℕ → List Transition → Result (Unit {0}) Refusal → Type 0
Answered s ts (Ok done) = Accepted s ts
Answered s ts (Err e) = Refused s e × (ts ≡ [])
