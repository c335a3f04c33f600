use Rattle.std.proofs.Common.{◌≡◌, ◌+◌}
use Rattle.lts.specs.Lts.{Lts}
use Rattle.refine.specs.Classes.{Refined}
use Rattle.refine.specs.Climbs.{IsName}
use Rattle.refine.proofs.Climbing.{Climbed}
use Rattle.refine.proofs.classes.Classes.climb.Given as goal

abbrev pub invariant-loop-low : goal.invariant-loop-low
invariant-loop-low l =
    (m : Lts) → Refined m l.self → IsName m l.self l.first → IsName m l.self l.second → (l.first ≡ l.second → ⊥) → Climbed m l.self l.first l.second l.high l.low l.least

abbrev pub decreases-loop-low : goal.decreases-loop-low
decreases-loop-low l = l.high + l.low
