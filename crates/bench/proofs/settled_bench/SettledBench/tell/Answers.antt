use Rattle.std.proofs.Common.{◌≡◌, Ok, Err, MatchResult, rules, refl, subst}
use Rattle.refine.specs.Classes.{Refined}
use Rattle.telling.specs.Telling.{Told as Written}
use Rattle.telling.specs.Unlike.{WhereUnlike}
use Rattle.bench.specs.Bench.{system}
use Rattle.law.specs.declared.refusals.TellRefusal.TheVariants.{TooLong}
use Rattle.bench.proofs.Answering.{told}
use Rattle.bench.proofs.Taking.{telling_takes}
use Rattle.bench.proofs.settled_bench.SettledBench.tell.Goals as goal

pub returns-in_err-test_states-clause-lawful : goal.returns-in_err-test_states-clause-lawful
returns-in_err-test_states-clause-lawful g c = telling_takes g.L.System.means g.R.System.means g.met.L.System.limits g.met.R.System.limits _ _ refl _ _ _ _ _ (search rules)

pub returns-then-one_class-clause-lawful : goal.returns-then-one_class-clause-lawful
returns-then-one_class-clause-lawful g c = telling_takes g.L.System.means g.R.System.means g.met.L.System.limits g.met.R.System.limits _ _ refl _ _ _ _ _ (search rules)

pub returns-clause-answer : goal.returns-clause-answer
returns-clause-answer g c =
    let refusal : MatchResult c.tell.result (λ n. c.map_err.result ≡ Ok n) (λ e. c.map_err.result ≡ Err TooLong) = search rules in
    let telling = subst (λ b. WhereUnlike (system g.L.System.means g.R.System.means b) c.self.inside.inner.classes c.args.s c.args.t (Written (system g.L.System.means g.R.System.means b) c.args.s c.args.t c.args.lines.now c.tell.new.lines c.tell.result)) c.self.view_is c.tell.ensures in
    let refined = subst (λ b. Refined (system g.L.System.means g.R.System.means b) c.self.inside.inner.classes) c.self.view_is c.self.invariant.classes in
    told _ _ _ _ _ (search rules) (search rules) c.tell.result c.map_err.result refusal (telling refined (search rules) (search rules) (search rules))

pub returns-clause-lawful : goal.returns-clause-lawful
returns-clause-lawful g c = telling_takes g.L.System.means g.R.System.means g.met.L.System.limits g.met.R.System.limits _ _ refl _ _ _ _ _ (returns-clause-answer g c)
