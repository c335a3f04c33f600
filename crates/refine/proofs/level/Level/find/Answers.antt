-- The name of the class is looked at first, then the fresh names one by one.
use Rattle.std.proofs.Common.{◌≡◌, ℕ, suc, ◌<◌, get_or, true, false, sym, ap, ◌∙◌, subst, arith, rules}
use Rattle.std.proofs.lemmas.Bool.{true≢false}
use Rattle.std.proofs.lemmas.Iterator.{first_from_find, YieldsList-from_slice}
use Rattle.std.proofs.lemmas.Iterator.Consumers.{YieldsList-from_copied, YieldsList-at}
use Rattle.refine.specs.Classes.{Names, Classed}
use Rattle.refine.specs.Signatures.{Alike, passes}
use Rattle.refine.proofs.Naming.{classed_of, class_low}
use Rattle.refine.proofs.Placing.{class_names, alike_names, found_names}
use Rattle.refine.proofs.Signing.{tells}
use Rattle.refine.proofs.level.Level.find.Goals as goal
use Rattle.refine.proofs.level.Level.find.Goals.{then-class-state-via-then-class-state, then-class-state-via-else-class-state+then-same}

pub returns-then-class-state : goal.returns-then-class-state
returns-then-class-state g c =
    let level = c.args.self.now in
    let m = g.G.Graph.means level.graph.now in
    let wide = g.met.G.Graph.wide level.graph.now in
    let s = c.args.state in
    let r = level.depth in
    let classed = classed_of m r level.names level.classed in
    let u = get_or level.names c.from.result 0 in
    let same : u ≡ get_or level.names s 0 = ap (λ i. get_or level.names i 0) c.from.ensures in
    let named : Names m (suc r) u u = subst (λ u. Names m (suc r) u u) (sym same) (class_names m wide r level.names classed s c.requires.state) in
    elim c.then-class-state.branch [
      | then-class-state-via-then-class-state w ↦ subst (λ v. Names m (suc r) v u) w.if-class-state.true named
      | then-class-state-via-else-class-state+then-same w ↦
          let lower : u < s = omega (arith, class_low m r level.names classed s c.requires.state, w.if-class-state.false, same) in
          let told = tells m level.names s u c.args.print w.weight.result c.args.marks.now c.requires.signed (w.weight.ensures ∙ c.requires.placed.weighs u lower) in
          alike_names m wide r level.names classed s u named (told.0 (sym w.same.ensures ∙ w.if-same.true))
    ]

pub returns : goal.returns
returns g c =
    let level = c.args.self.now in
    let m = g.G.Graph.means level.graph.now in
    let wide = g.met.G.Graph.wide level.graph.now in
    let names = level.names in
    let s = c.args.state in
    let r = level.depth in
    let classed : Classed m r names = classed_of m r names level.classed in
    let w = c.args.round.now in
    let u = get_or names c.from.result 0 in
    let same : u ≡ get_or names s 0 = ap (λ i. get_or names i 0) c.from.ensures in
    let lower : u < s = omega (arith, class_low m r names classed s c.requires.state, c.if-class-state.false, same) in
    let told = tells m names s u c.args.print c.weight.result c.args.marks.now c.requires.signed (c.weight.ensures ∙ c.requires.placed.weighs u lower) in
    let apart : ¬ Alike m names s (get_or names s 0) = subst (λ u. ¬ Alike m names s u) same (λ a. true≢false (sym (told.1 a) ∙ sym c.same.ensures ∙ c.if-same.false)) in
    let test = λ (u : ℕ). passes m names c.args.marks.now c.args.print u (get_or w.weights u 0) in
    let found = first_from_find c.find.new.self _ c.find.result (λ u. test u ≡ true) (λ u. test u ≡ false) c.find.ensures.ran
    (YieldsList-from_copied (YieldsList-at c.copied.ensures.source (YieldsList-from_slice w.fresh.items cc))) (λ x q k. search rules) (λ x q k. search rules) in
    subst (Names m (suc r) s) (sym c.unwrap_or.ensures)
    (found_names m wide r names classed s w c.requires.placed c.requires.state apart c.args.print c.args.marks.now c.requires.signed c.find.result found)
