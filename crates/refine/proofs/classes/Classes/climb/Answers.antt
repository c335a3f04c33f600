-- The higher of two names is left for its parent until they meet.
use Rattle.std.proofs.Common.{◌≡◌, min, max, ap, ◌∙◌, arith}
use Rattle.refine.specs.Classes.{parting_at}
use Rattle.refine.proofs.Climbing.{branch_lower, climbed_none, climbed_more, climbed_all}
use Rattle.refine.proofs.classes.Classes.climb.Goals as goal

pub loop-low-init : goal.loop-low-init
loop-low-init c = λ m h ns nt ne.
    climbed_none m c.args.self.now h c.args.first c.args.second ns nt ne c.max-high.result c.min-low.result c.parting-least.result.depth c.max-high.ensures c.min-low.ensures
    (ap (λ p. p.depth) c.parting-least.ensures)

pub loop-low-preserved : goal.loop-low-preserved
loop-low-preserved c = λ m h ns nt ne.
    let x = c.loop-low.invariant m h ns nt ne in
    let high = c.loop-low.high in
    let low = c.loop-low.low in
    let p = parting_at c.args.self.now.partings high in
    let same = c.parting-parting.ensures in
    let lower = branch_lower m c.args.self.now h high low x.upper c.loop-low-test.true in
    let parent : c.min-parent.result ≡ p.parent = omega (arith, c.min-parent.ensures, ap (λ p. p.parent) same, lower) in
    climbed_more m c.args.self.now h c.args.first c.args.second high low c.loop-low.least x c.loop-low-test.true c.max-high-in-loop-low.result c.min-low-in-loop-low.result
    c.min-least.result
    (c.max-high-in-loop-low.ensures ∙ ap (λ p. max p low) parent)
    (c.min-low-in-loop-low.ensures ∙ ap (λ p. min p low) parent)
    (c.min-least.ensures ∙ ap (λ p. min c.loop-low.least p.depth) same)

pub returns : goal.returns
returns c = λ m h ns nt ne.
    climbed_all m c.args.self.now h c.args.first c.args.second c.loop-low.high c.loop-low.low c.loop-low.least (c.loop-low.invariant m h ns nt ne) c.loop-low-test.false
