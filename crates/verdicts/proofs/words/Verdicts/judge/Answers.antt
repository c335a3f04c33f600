use Rattle.std.proofs.Common.{◌≡◌, ◌≤◌, length, sym, ap, ◌∙◌, ⊎_elim, arith, length-drop}
use Rattle.std.proofs.lemmas.List.{length_push}
use Rattle.verdicts.proofs.Valuing.{entry_given, judge_more}
use Rattle.verdicts.proofs.words.Verdicts.judge.Goals as goal

pub loop-i-preserved : goal.loop-i-preserved
loop-i-preserved g c =
    let graph = c.args.graph.now in
    let es = c.args.entries.now in
    let k = length c.loop-i.yielded in
    let steps = c.in-Some.ensures.steps in
    let numbers = c.loop-i.invariant.numbers in
    let number : c.in-Some.i ≡ k = omega (arith, numbers, steps) in
    let at = entry_given es k c.in-Some.item.now _ (sym c.loop-i.invariant.entries ∙ steps.1) in
    rw length_push
    (record {
      numbers = (omega (arith, numbers, steps), omega (arith, numbers, steps));
      entries = at.2;
      judged = judge_more (g.G.Graph.means graph) (g.met.G.Graph.wide graph) es c.loop-i.self.words c.judge_entry.new.self.words k at.0 (rw (number, at.1) at c.judge_entry.ensures) c.loop-i.invariant.judged;
    })

pub returns : goal.returns
returns g c = λ sound few j l.
    let es = c.args.entries.now in
    let k = length c.loop-i.yielded in
    let all : length es ≤ k =
    ⊎_elim (λ x. omega (arith, x.1, c.loop-i.invariant.numbers)) (λ x. omega (arith, x.1, ap length c.loop-i.invariant.entries, length-drop k es)) c.in-None.ensures.steps in
    c.loop-i.invariant.judged sound j (omega arith)
