-- Two systems side by side, as one. Assumes nothing.
use Rattle.std.specs.Prelude.{ℕ, ◌+◌, ◌-◌, cond, map, Some, None, nat_lt}
use Rattle.lts.specs.Lts.{Lts, Way}

-- A way whose target's number is raised by n.
abbrev pub shifted : ℕ → Way → Way
shifted n None = None
shifted n (Some p) = Some (p.0, n + p.1)

-- A left state keeps its number, and a right state adds the left number of states. It starts at the left start.
abbrev pub joined : Lts → Lts → Lts
joined l r = record {
  states = l.states + r.states;
  start = l.start;
  ways = λ s. cond (nat_lt s l.states) (l.ways s) (map (shifted l.states) (r.ways (s - l.states)));
}
