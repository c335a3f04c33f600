use Rattle.std.proofs.Common.{sym}
use Rattle.bench.proofs.Taking.{reopening_takes}
use Rattle.bench.proofs.settled_bench.SettledBench.reopen.Goals as goal

pub returns-clause-lawful : goal.returns-clause-lawful
returns-clause-lawful g c = reopening_takes g.L.System.means g.R.System.means g.met.L.System.limits g.met.R.System.limits _ _ (sym c.self.view_is)
