-- Labelled transition systems: what every answer of a system is about. Assumes nothing.
use Rattle.std.specs.Prelude.{◌≡◌, ℕ, ◌<◌, ◌≤◌, List, [], length, Some, None, Option, slice_index_or}

-- A way: one numbered slot of a state's list. It is a move, given by its action and its target, or None where it is shut.
abbrev pub Way : Type 0
Way = Option (ℕ × ℕ)

-- A transition system: its states are the numbers below `states`, and each has a list of ways.
pub record Lts : Type 0 where
  pub states : ℕ
  pub start : ℕ
  pub ways : ℕ → List Way

-- Way k of state s, and None where s or k is too large.
abbrev pub way_at : Lts → ℕ → ℕ → Way
way_at m s k = slice_index_or (m.ways s) k None

-- State s can do action a and become state t.
abbrev pub Move : Lts → ℕ → ℕ → ℕ → Type 0
Move m s a t = (k : ℕ) × (way_at m s k ≡ Some (a, t))

-- What every system keeps to.
pub record Limits (m : Lts) : Type 0 where
  -- it has from 1 to 1,024 states, and the start is one of them
  pub some : 1 ≤ m.states
  pub most : m.states ≤ 1024
  pub starts : m.start < m.states
  -- a state has at most 4,095 ways, and what is no state has none
  pub few : (s : ℕ) → length (m.ways s) ≤ 4095
  pub outside : (s : ℕ) → m.states ≤ s → m.ways s ≡ []
  -- a move has an action up to 52, and leads to a state
  pub action : (s k a t : ℕ) → way_at m s k ≡ Some (a, t) → a ≤ 52
  pub target : (s k a t : ℕ) → way_at m s k ≡ Some (a, t) → t < m.states
