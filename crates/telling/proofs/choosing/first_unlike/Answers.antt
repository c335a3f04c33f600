-- The moves of t are marked, and the first move of s whose code is not marked is found.
use Rattle.std.proofs.Common.{◌≡◌, ℕ, not, sym, ap, ◌∙◌, rules}
use Rattle.std.proofs.lemmas.List.{map-id}
use Rattle.std.proofs.lemmas.Iterator.Adapters.{option_map_id}
use Rattle.std.proofs.lemmas.Iterator.Consumers.{YieldsList-from_first, YieldsList-at, YieldsList-end}
use Rattle.std.proofs.lemmas.Iterator.Search.{find_from_yields_List}
use Rattle.refine.specs.Codes.{moves, code_of, coded}
use Rattle.refine.specs.ByteMarks.{byte_marked}
use Rattle.refine.proofs.Coding.{moves_given}
use Rattle.telling.proofs.choosing.first_unlike.Goals as goal

pub returns : goal.returns
returns g c =
    let m = g.G.Graph.means c.args.graph.now in
    let names = c.args.names.now in
    let told = c.flatten-step-items.ensures in
    let all = YieldsList-end
    (YieldsList-at c.into_iter-step-iterator.ensures.into_iter_gives (moves_given (λ o j h. h.0) (YieldsList-at told.source (YieldsList-from_first (λ x. x) _ _ c.of.ensures)) told.front told.back told.done))
    c.loop-step.yielded _ c.loop-step.yielded_by _ _ c.in-None.is c.next.ensures.steps in
    let same : (i : ℕ) → byte_marked c.loop-step.marks i ≡ coded names (moves (m.ways c.args.t)) i = λ i. c.loop-step.invariant i ∙ ap (λ ps. coded names ps i) (sym (map-id c.loop-step.yielded) ∙ all.0) in
    let told' = c.flatten.ensures in
    sym (option_map_id c.find.result)
    ∙ find_from_yields_List (λ p. not (coded names (moves (m.ways c.args.t)) (code_of names p))) c.find.new.self _ c.find.result c.find.ensures.ran
    (moves_given (λ o j h. h.0) (YieldsList-at told'.source (YieldsList-from_first (λ x. x) _ _ c.of-2.ensures)) told'.front told'.back told'.done)
    (λ x b q e. let is : b ≡ not (byte_marked c.loop-step.marks (code_of names x)) = search rules in (search rules, is ∙ ap not (same (code_of names x))))
