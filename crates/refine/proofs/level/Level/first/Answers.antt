use Rattle.refine.proofs.Naming.{first_classed}
use Rattle.refine.proofs.level.Level.first.Goals as goal

pub invariant_of-result : goal.invariant_of-result
invariant_of-result g c = record { classed = ∣ first_classed (g.G.Graph.means c.args.graph.now) ∣₁ }
