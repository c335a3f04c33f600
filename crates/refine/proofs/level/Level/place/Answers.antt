-- The state is marked and weighed, its name is found, and both are entered.
use Rattle.std.proofs.Common.{get_or, subst}
use Rattle.refine.specs.Rounds.{Entered}
use Rattle.refine.proofs.Naming.{classed_of}
use Rattle.refine.proofs.Placing.{placed_more}
use Rattle.refine.proofs.level.Level.place.Goals as goal

pub returns : goal.returns
returns g c =
    let level = c.args.self.now in
    let m = g.G.Graph.means level.graph.now in
    let s = c.args.state in
    placed_more m (g.met.G.Graph.wide level.graph.now) level.depth level.names (classed_of m level.depth level.names level.classed) s c.args.round.now c.requires.placed c.enter.new.self
    c.find-name.result
    c.sign-print.result
    (subst (λ i. Entered c.args.round.now s (get_or level.names i 0) c.find-name.result c.sign-print.result c.enter.new.self) c.from.ensures c.enter.ensures)
    c.find-name.ensures
    c.sign-print.ensures.weighs
