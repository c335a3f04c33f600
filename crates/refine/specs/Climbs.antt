-- Names of classes, as the tree of their separations has them. Assumes nothing.
use Rattle.std.specs.Prelude.{◌≡◌, ℕ, ◌<◌, slice_index}
use Rattle.lts.specs.Lts.{Lts}
use Rattle.refine.specs.declared.classes.Classes.{Classes}

-- State u names its own class.
abbrev pub IsName : Lts → Classes → ℕ → Type 0
IsName m c u = (u < m.states) × (slice_index c.names u ≡ u)
