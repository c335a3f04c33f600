use Rattle.std.proofs.Common.{◌≡◌, ◌-◌}
use Rattle.refine.proofs.Refining.{Refining}
use Rattle.refine.proofs.refine.Given as goal

abbrev pub invariant-loop-marks : goal.invariant-loop-marks
invariant-loop-marks g l = record {
  same : l.level.graph.now ≡ l.graph;
  refining : Refining (g.G.Graph.means l.level.graph.now) l.level.depth l.level.names l.partings;
}

abbrev pub decreases-loop-marks : goal.decreases-loop-marks
decreases-loop-marks g l = 2048 - l.level.depth
