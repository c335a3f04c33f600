use Rattle.std.proofs.Common.{◌≡◌, Ok, Err, MatchResult, rules, refl, sym, subst}
use Rattle.law.specs.declared.refusals.ReachRefusal.TheVariants.{PathShort}
use Rattle.verdicts.specs.Words.{Judged}
use Rattle.runs.specs.Reaching.{Answered}
use Rattle.bench.specs.Bench.{system}
use Rattle.bench.proofs.Answering.{reached}
use Rattle.bench.proofs.Taking.{reaching_takes}
use Rattle.bench.proofs.settled_bench.SettledBench.reach.Goals as goal

pub returns-in_err-test_formula-clause-lawful : goal.returns-in_err-test_formula-clause-lawful
returns-in_err-test_formula-clause-lawful g c = reaching_takes g.L.System.means g.R.System.means g.met.L.System.limits g.met.R.System.limits _ _ refl _ _ _ _ _ (search rules)

pub returns-clause-answer : goal.returns-clause-answer
returns-clause-answer g c =
    let f = c.args.formula in
    let s = c.args.state in
    let words = c.self.inside.inner.verdicts.words in
    let tested = c.in_ok-test_formula.ensures in
    let refusal : MatchResult c.search.result (λ n. c.map_err.result ≡ Ok n) (λ e. c.map_err.result ≡ Err PathShort) = search rules in
    let judged = subst (λ b. Judged (system g.L.System.means g.R.System.means b) b.entries words) c.self.view_is c.self.invariant.verdicts in
    let answered = subst (λ b. Answered (system g.L.System.means g.R.System.means b) words f s c.args.path.now c.search.new.path c.search.result) c.self.view_is c.search.ensures in
    reached _ _ _ _ _ _ tested.0 tested.2 c.search.result c.map_err.result refusal (answered _ (judged f tested.0) tested.1 tested.2)

pub returns-clause-lawful : goal.returns-clause-lawful
returns-clause-lawful g c = reaching_takes g.L.System.means g.R.System.means g.met.L.System.limits g.met.R.System.limits _ _ (sym c.self.view_is) _ _ _ _ _ (returns-clause-answer g c)
