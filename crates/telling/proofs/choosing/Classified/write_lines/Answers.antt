use Rattle.std.proofs.Common.{ℕ, ◌≡◌, ◌+◌, ◌-◌, ◌<◌, ◌++◌, length, get_or, ap, ap₂, ◌∙◌, subst, arith}
use Rattle.std.proofs.lemmas.List.{length-append}
use Rattle.hml.specs.Distinguishing.{line_of}
use Rattle.hml.proofs.Resting.{unlike_apart}
use Rattle.pair.specs.Joining.{wide_closed}
use Rattle.telling.specs.Choosing.{children_by, children_of}
use Rattle.telling.proofs.Continuing.{progress_ends, line_written, too_many, laid_none, no_room}
use Rattle.telling.proofs.choosing.Classified.write_lines.Goals as goal

pub returns-in_err-push : goal.returns-in_err-push
returns-in_err-push g c refined ls lt unlike =
    let m = g.G.Graph.means c.args.self.now.graph.now in
    let x = unlike_apart m (wide_closed m (g.met.G.Graph.wide c.args.self.now.graph.now)) c.args.s c.args.t ls lt unlike in
    let start = c.new-queue.result in
    let lines = c.args.lines.now in
    laid_none m c.args.s c.args.t start.limit lines lines c.from_residual.result c.from_residual.ensures.0 c.new-queue.ensures.limit
    (no_room m c.args.s c.args.t x.0 start.limit (omega (arith, c.in_err-push.ensures, ap length c.new-queue.ensures.none)) x.1)

pub returns-in_err-push_children : goal.returns-in_err-push_children
returns-in_err-push_children g c refined ls lt unlike =
    let m = g.G.Graph.means c.args.self.now.graph.now in
    let wide = g.met.G.Graph.wide c.args.self.now.graph.now in
    let x = unlike_apart m (wide_closed m wide) c.args.s c.args.t ls lt unlike in
    let q = c.loop-u.queue in
    let i = c.loop-u.i in
    let choice = c.choose-choice.result in
    let found = c.in-Some.ensures.lookup.3 in
    let p : ℕ × ℕ = c.in-Some.field-0.now in
    let in_pairs : i < length q.pairs.items = omega (arith, found.0, c.from.ensures, ap length c.deref.ensures.0) in
    let is : p ≡ get_or q.pairs.items i (0, 0) = found.1 (0, 0) ∙ ap₂ (λ ps k. get_or ps k (0, 0)) c.deref.ensures.0 c.from.ensures in
    laid_none m c.args.s c.args.t q.limit c.args.lines.now c.loop-u.lines c.from_residual-in_err-push_children.result c.from_residual-in_err-push_children.ensures.0 c.loop-u.invariant.limit
    (too_many m wide c.args.s c.args.t x.0 i choice.action choice.modality p q.pairs.items (children_of m p.0 p.1 choice) c.args.lines.now c.loop-u.lines in_pairs (omega arith) is
    (c.loop-u.invariant.progress x.0 refined ls lt x.1) (c.choose-choice.ensures refined) q.limit
    (subst (λ s. q.limit < length q.pairs.items + length (children_by choice (m.ways s))) c.other.ensures c.in_err-push_children.ensures))

pub loop-u-preserved : goal.loop-u-preserved
loop-u-preserved g c =
    let m = g.G.Graph.means c.args.self.now.graph.now in
    let wide = g.met.G.Graph.wide c.args.self.now.graph.now in
    let q = c.loop-u.queue in
    let q' = c.push_children.new.self in
    let i = c.loop-u.i in
    let choice = c.choose-choice.result in
    let found = c.in-Some.ensures.lookup.3 in
    let p : ℕ × ℕ = c.in-Some.field-0.now in
    let in_pairs : i < length q.pairs.items = omega (arith, found.0, c.from.ensures, ap length c.deref.ensures.0) in
    let is : p ≡ get_or q.pairs.items i (0, 0) = found.1 (0, 0) ∙ ap₂ (λ ps k. get_or ps k (0, 0)) c.deref.ensures.0 c.from.ensures in
    let gave = c.in_ok-push_children.ensures in
    record {
      limit = gave.1 ∙ c.loop-u.invariant.limit;
      within = omega (arith, in_pairs, ap length gave.0, length-append q.pairs.items (children_by choice (m.ways c.other.result)));
      progress = λ d refined ls lt n.
          rw c.from-in-Some.ensures
          (line_written m wide c.args.s c.args.t d i choice.action choice.modality p q.pairs.items (children_of m p.0 p.1 choice) c.args.lines.now c.loop-u.lines in_pairs (omega arith) is
          (c.loop-u.invariant.progress d refined ls lt n) (c.choose-choice.ensures refined) q'.pairs.items c.line.result
          (gave.0 ∙ ap (λ s. q.pairs.items ++ children_by choice (m.ways s)) c.other.ensures)
          (c.line.ensures ∙ ap₂ (λ n k. line_of choice.modality choice.action n (k - n)) c.len-given.ensures c.len.ensures));
    }

pub returns : goal.returns
returns g c refined ls lt unlike =
    let m = g.G.Graph.means c.args.self.now.graph.now in
    let x = unlike_apart m (wide_closed m (g.met.G.Graph.wide c.args.self.now.graph.now)) c.args.s c.args.t ls lt unlike in
    let h = c.loop-u.invariant.progress x.0 refined ls lt x.1 in
    let q = c.loop-u.queue in
    let none = c.in_default.ensures.lookup.3 in
    let all : c.loop-u.i ≡ length q.pairs.items = omega (arith, none, c.from.ensures, ap length c.deref.ensures.0) in
    (omega arith, omega arith, omega arith, progress_ends m c.args.s c.args.t x.0 c.loop-u.i q.pairs.items c.args.lines.now c.loop-u.lines all h, h.kept)
