use Rattle.std.proofs.Common.{sym, subst, add-one}
use Rattle.refine.specs.Classes.{Classed}
use Rattle.refine.proofs.level.Level.deeper.Goals as goal

pub invariant_of-result : goal.invariant_of-result
invariant_of-result g c =
    let r = c.args.self.now.depth in
    record { classed = ∣ subst (λ k. Classed (g.G.Graph.means c.args.self.now.graph.now) k c.args.round.next) (sym (add-one r)) c.requires.placed.named ∣₁ }
