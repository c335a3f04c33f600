use Rattle.std.proofs.Common.{refl, rules}
use Rattle.bench.proofs.Taking.{comparing_takes}
use Rattle.bench.proofs.settled_bench.SettledBench.alike.Goals as goal

pub returns-in_err-test_states-clause-lawful : goal.returns-in_err-test_states-clause-lawful
returns-in_err-test_states-clause-lawful g c = comparing_takes g.L.System.means g.R.System.means g.met.L.System.limits g.met.R.System.limits _ _ refl _ _ _ (search rules)

pub returns-clause-lawful : goal.returns-clause-lawful
returns-clause-lawful g c = comparing_takes g.L.System.means g.R.System.means g.met.L.System.limits g.met.R.System.limits _ _ refl _ _ _ (search rules)
