-- The transition system that the rows of a table stand for. Assumes nothing.
use Rattle.std.specs.Prelude.{ℕ, suc, max, List, [], ◌∷◌, map, Some, ◌==◌}
use Rattle.std.specs.List.{filter}
use Rattle.lts.specs.Lts.{Lts, Way}
use Rattle.rows.specs.Format.{Transition}

-- One more than the highest number that a row names, and 1 without rows.
abbrev pub states_of : List Transition → ℕ
states_of [] = 1
states_of (t ∷ ts) = max (suc (max t.from t.to)) (states_of ts)

-- The rows from a state, in order.
abbrev pub rows_from : List Transition → ℕ → List Transition
rows_from ts s = filter (λ t. t.from == s) ts

-- The way that a row gives: a move, never shut.
abbrev pub way_of : Transition → Way
way_of t = Some (t.action, t.to)

-- The ways of a state: one for each row from it, in order.
abbrev pub ways_of : List Transition → ℕ → List Way
ways_of ts s = map way_of (rows_from ts s)

-- The system starts at state 0.
abbrev pub table_lts : List Transition → Lts
table_lts ts = record { states = states_of ts; start = 0; ways = ways_of ts }

-- One state without ways.
abbrev pub still : Lts
still = record { states = 1; start = 0; ways = λ s. [] }
