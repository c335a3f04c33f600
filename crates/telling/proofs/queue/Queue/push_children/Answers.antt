use Rattle.std.proofs.Common.{◌++◌, length, sym, ap, ◌∙◌, arith}
use Rattle.std.proofs.lemmas.List.{map-id, length-append}
use Rattle.std.proofs.lemmas.Iterator.Consumers.{YieldsList-from_first, YieldsList-at, YieldsList-end, YieldsList-so_far, YieldsList-turn}
use Rattle.refine.specs.Codes.{moves}
use Rattle.refine.proofs.Coding.{moves_given}
use Rattle.telling.specs.Choosing.{children_by}
use Rattle.telling.proofs.Children.{by_moves, all_moves, longer, queued_none}
use Rattle.telling.proofs.queue.Queue.push_children.Goals as goal

pub returns-in_err-push : goal.returns-in_err-push
returns-in_err-push g c =
    let choice = c.args.choice in
    let ws = (g.G.Graph.means c.args.graph.now).ways c.args.state in
    let told = c.flatten-action-items.ensures in
    let road = YieldsList-at c.into_iter-action-iterator.ensures.into_iter_gives (moves_given (λ o j h. h.0) (YieldsList-at told.source (YieldsList-from_first (λ x. x) _ _ c.of.ensures)) told.front told.back told.done) in
    let ps = c.loop-action.yielded in
    let turn = YieldsList-turn road ps _ c.loop-action.yielded_by _ _ (c.in-Some.action, c.in-Some.target) c.in-Some.is c.next.ensures.steps in
    let more = longer choice (moves ws) ps (c.in-Some.action, c.in-Some.target) (YieldsList-so_far road ps _ c.loop-action.yielded_by) turn.0 turn.1 c.if-action-choice.true in
    queued_none c.args.self.now (children_by choice ws) c.push.new.self c.from_residual.result c.from_residual.ensures.0
    (omega (arith, more, ap length (all_moves choice ws), ap length c.loop-action.invariant.pairs, length-append c.args.self.now.pairs.items (by_moves choice ps), c.loop-action.invariant.limit, c.in_err-push.ensures))

pub returns : goal.returns
returns g c =
    let choice = c.args.choice in
    let ws = (g.G.Graph.means c.args.graph.now).ways c.args.state in
    let told = c.flatten-action-items.ensures in
    let all = YieldsList-end
    (YieldsList-at c.into_iter-action-iterator.ensures.into_iter_gives (moves_given (λ o j h. h.0) (YieldsList-at told.source (YieldsList-from_first (λ x. x) _ _ c.of.ensures)) told.front told.back told.done))
    c.loop-action.yielded _ c.loop-action.yielded_by _ _ c.in-None.is c.next.ensures.steps in
    (c.loop-action.invariant.pairs ∙ ap (λ qs. c.args.self.now.pairs.items ++ qs) (ap (by_moves choice) (sym (map-id c.loop-action.yielded) ∙ all.0) ∙ all_moves choice ws), c.loop-action.invariant.limit)
