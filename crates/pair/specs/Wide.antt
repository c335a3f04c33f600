-- What every pair of transition systems, side by side, keeps to. Assumes nothing.
use Rattle.std.specs.Prelude.{◌≡◌, ℕ, ◌<◌, ◌≤◌, [], length, Some}
use Rattle.lts.specs.Lts.{Lts, way_at}

pub record Wide (m : Lts) : Type 0 where
  -- it has from 2 to 2,048 states
  pub some : 2 ≤ m.states
  pub most : m.states ≤ 2048
  -- a state has at most 4,095 ways, and what is no state has none
  pub few : (s : ℕ) → length (m.ways s) ≤ 4095
  pub outside : (s : ℕ) → m.states ≤ s → m.ways s ≡ []
  -- a move has an action up to 52, and leads to a state
  pub action : (s k a t : ℕ) → way_at m s k ≡ Some (a, t) → a ≤ 52
  pub target : (s k a t : ℕ) → way_at m s k ≡ Some (a, t) → t < m.states
