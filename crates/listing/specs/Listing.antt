-- How a transition system is listed, a line to each move. Assumes nothing.
use Rattle.std.specs.Prelude.{ℕ, zero, suc, List, [], ◌∷◌, ◌++◌, Some, None, codes, decimal}
use Rattle.actions.specs.Text.{action_text}
use Rattle.lts.specs.Lts.{Lts, Way}

-- Byte 10 ends each line.
abbrev pub ended : List ℕ → List ℕ
ended text = text ++ 10 ∷ []

-- A move is a line of the state, the action and the target, with commas between; a shut way is no line.
abbrev pub move_line : ℕ → Way → List ℕ
move_line s None = []
move_line s (Some p) = decimal s ++ (codes "," ++ (action_text p.0 ++ (codes "," ++ ended (decimal p.1))))

-- The lines of some ways of a state, in order.
abbrev pub ways_text : ℕ → List Way → List ℕ
ways_text s [] = []
ways_text s (w ∷ ws) = move_line s w ++ ways_text s ws

-- The lines of n states from s on, in order.
abbrev pub states_text : Lts → ℕ → ℕ → List ℕ
states_text m s zero = []
states_text m s (suc n) = ways_text s (m.ways s) ++ states_text m (suc s) n

-- The number of states, and the start.
abbrev pub head_lines : Lts → List ℕ
head_lines m = (codes "states," ++ ended (decimal m.states)) ++ (codes "start," ++ ended (decimal m.start))

-- Those, and every move by state and way.
abbrev pub listing_of : Lts → List ℕ
listing_of m = head_lines m ++ states_text m 0 m.states
