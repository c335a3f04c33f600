-- The sequences of actions that a state can do. Assumes nothing.
use Rattle.std.specs.Prelude.{ℕ, ◌↔◌, List, [], ◌∷◌}
use Rattle.lts.specs.Lts.{Lts, Move}

-- State s can do these actions, one after the other.
pub data Trace (m : Lts) : ℕ → List ℕ → Type 0 where
  stop : {s : ℕ} → Trace m s []
  step : {s a t : ℕ} {word : List ℕ} → Move m s a t → Trace m t word → Trace m s (a ∷ word)

-- Both can do the same sequences of actions.
abbrev pub TraceEqual : Lts → ℕ → ℕ → Type 0
TraceEqual m s t = (word : List ℕ) → Trace m s word ↔ Trace m t word
