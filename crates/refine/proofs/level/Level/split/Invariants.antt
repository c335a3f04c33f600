use Rattle.refine.specs.Rounds.{Placed}
use Rattle.refine.proofs.level.Level.split.Given as goal

abbrev pub invariant-loop-state : goal.invariant-loop-state
invariant-loop-state g l = Placed (g.G.Graph.means l.self.graph.now) l.self.depth l.self.names l.state l.round
