-- What reading a table answers, and what the record then stands for. Assumes nothing.
use Rattle.std.specs.Prelude.{◌≡◌, ℕ, List, Ok, Err, Result}
use Rattle.lts.specs.Lts.{Lts}
use Rattle.rows.specs.Answers.{transitions}
use Rattle.rows.specs.Format.{Transition}
use Rattle.rows.specs.Verdict.{Accepted, Refused}
use Rattle.rows.specs.declared.refusal.Refusal.{Refusal}
use Rattle.table.specs.Meaning.{table_lts, still}
use Rattle.table.specs.declared.table.Table.{Table}

-- The system that a record stands for.
abbrev pub meaning : Table → Lts
meaning t = table_lts (transitions t.rows)

-- A well-formed sheet within the limits is accepted, and the record then means the system m of its rows. Any other
-- sheet is refused by the first rule that it breaks, and the record is then one state without ways.
abbrev pub Read : List ℕ → Lts → Result (Unit {0}) Refusal → Type 0
Read s m (Ok done) = (ts : List Transition) × Accepted s ts × (m ≡ table_lts ts)
Read s m (Err e) = Refused s e × (m ≡ still)
