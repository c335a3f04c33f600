-- Codes of moves, by the action and the class of the target. Assumes nothing.
use Rattle.std.specs.Prelude.{ℕ, ◌+◌, ◌*◌, min, Bool, ◌==◌, List, slice_index}
use Rattle.std.specs.List.{list_any, flat_map}
use Rattle.std.specs.Option.{option_to_list}
use Rattle.lts.specs.Lts.{Way}

-- The moves among ways, each by its action and its target, in order.
abbrev pub moves : List Way → List (ℕ × ℕ)
moves ws = flat_map option_to_list ws

-- The code of a move by its action and the name of its target's class, as one number: with actions up to 52 and names
-- below 2,048 no two have the same. An action over 52 has the last code.
abbrev pub code_of : List ℕ → ℕ × ℕ → ℕ
code_of names p = min (p.0 * 2048 + slice_index names p.1) 108544

-- One of the moves has the code.
abbrev pub coded : List ℕ → List (ℕ × ℕ) → ℕ → Bool
coded names ps i = list_any (λ p. code_of names p == i) ps
