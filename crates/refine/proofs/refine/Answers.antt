-- Each round keeps the state of refinement, and the first that adds no name ends it.
use Rattle.std.proofs.Common.{◌<◌, sym, ◌∙◌, subst, arith}
use Rattle.std.proofs.lemmas.Bool.{true≢false, eq-eqb, eqb-true}
use Rattle.hml.proofs.Deciding.{by_order}
use Rattle.arrayvec.specs.ArrayVec.{array_vec_len}
use Rattle.refine.specs.Classes.{Refined}
use Rattle.refine.proofs.Naming.{classed_of}
use Rattle.refine.proofs.Refining.{shallow, begins, rests, refining_more}
use Rattle.refine.proofs.refine.Goals as goal

pub loop-marks-init : goal.loop-marks-init
loop-marks-init g c = record {
  same = c.first-level.ensures.graph;
  refining = begins (g.G.Graph.means c.first-level.result.graph.now) (g.met.G.Graph.wide c.first-level.result.graph.now) _ _ _ c.first-level.ensures.depth c.first-level.ensures.names;
}

pub returns-then-is_empty : goal.returns-then-is_empty
returns-then-is_empty g c =
    let level = c.loop-marks.level in
    let m = g.G.Graph.means level.graph.now in
    let classed = classed_of m level.depth level.names level.classed in
    subst (λ x. Refined (g.G.Graph.means x) (record { names = level.names; partings = c.loop-marks.partings })) c.loop-marks.invariant.same
    (record {
      depth = level.depth;
      classed = classed;
      rests = rests m (g.met.G.Graph.wide level.graph.now) level.depth level.names c.split-round.result classed c.split-round.ensures (eqb-true (array_vec_len c.split-round.result.fresh) 0 (sym c.is_empty.ensures ∙ c.if-is_empty.true));
      parted = c.loop-marks.invariant.refining.treed;
    })

pub part-requires-clause-depth : goal.part-requires-clause-depth
part-requires-clause-depth g c = let level = c.loop-marks.level in shallow (g.G.Graph.means level.graph.now) (g.met.G.Graph.wide level.graph.now) c.loop-marks.invariant.refining

pub deeper-level-requires-clause-depth : goal.deeper-level-requires-clause-depth
deeper-level-requires-clause-depth g c = let level = c.loop-marks.level in shallow (g.G.Graph.means level.graph.now) (g.met.G.Graph.wide level.graph.now) c.loop-marks.invariant.refining

pub loop-marks-smaller : goal.loop-marks-smaller
loop-marks-smaller g c =
    let level = c.loop-marks.level in
    omega (arith, c.deeper-level.ensures.depth, shallow (g.G.Graph.means level.graph.now) (g.met.G.Graph.wide level.graph.now) c.loop-marks.invariant.refining)

pub loop-marks-preserved : goal.loop-marks-preserved
loop-marks-preserved g c =
    let level = c.loop-marks.level in
    let m = g.G.Graph.means level.graph.now in
    let w = c.split-round.result in
    let h = c.loop-marks.invariant in
    let some : 0 < array_vec_len w.fresh = by_order 0 (array_vec_len w.fresh) (λ l. l)
    (λ l. absurd (true≢false (sym (eq-eqb (array_vec_len w.fresh) 0 (omega (arith, l))) ∙ sym c.is_empty.ensures ∙ c.if-is_empty.false))) in
    let more = refining_more m (g.met.G.Graph.wide level.graph.now) level.depth level.names w (classed_of m level.depth level.names level.classed) c.split-round.ensures c.loop-marks.partings c.part.new.partings h.refining c.part.ensures.fresh c.part.ensures.others some in
    record { same = c.deeper-level.ensures.graph ∙ h.same; refining = rw (c.deeper-level.ensures.graph, c.deeper-level.ensures.names, c.deeper-level.ensures.depth) more }
