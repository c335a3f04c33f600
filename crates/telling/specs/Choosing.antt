-- What the line of a pair of states is chosen by, and what its children are. Assumes nothing.
use Rattle.std.specs.Prelude.{ℕ, ◌-◌, List, map, Some, None, Option}
use Rattle.std.specs.Option.{unwrap_or, option_map_or}
use Rattle.lts.specs.Lts.{Lts, Way}
use Rattle.hml.specs.Distinguishing.{targets, Chosen}
use Rattle.hml.specs.declared.line.Modality.{Modality}
use Rattle.hml.specs.declared.line.Modality.TheVariants.{May, Must}
use Rattle.telling.specs.declared.choosing.Choice.{Choice}

-- The depth before the least one to which two states do not agree.
abbrev pub depth_before : Option ℕ → ℕ
depth_before o = option_map_or (λ r. r - 1) o 0

-- By a move of the first state that the second does not match, and else by one of the second.
abbrev pub choice_of : Way → Way → Choice
choice_of (Some p) o = record { modality = May; action = p.0; target = p.1 }
choice_of None o = let p = unwrap_or o (0, 0) in record { modality = Must; action = p.0; target = p.1 }

-- Of the states of a pair, the one without the move that is chosen.
abbrev pub other : Modality → ℕ → ℕ → ℕ
other May s t = t
other Must s t = s

-- The target of the move that is chosen, beside a target of the other state.
abbrev pub paired : Modality → ℕ → ℕ → ℕ × ℕ
paired May u v = (u, v)
paired Must v u = (u, v)

-- The pairs that the ways of the other state give.
abbrev pub children_by : Choice → List Way → List (ℕ × ℕ)
children_by c ws = map (paired c.modality c.target) (targets c.action ws)

abbrev pub children_of : Lts → ℕ → ℕ → Choice → List (ℕ × ℕ)
children_of m s t c = children_by c (m.ways (other c.modality s t))

-- It is the line of the pair.
abbrev pub Chooses : Lts → ℕ → ℕ → Choice → Type 0
Chooses m s t c = Chosen m s t c.modality c.action (children_of m s t c)
