use Rattle.std.proofs.Common.{sym}
use Rattle.bench.proofs.Taking.{settling_takes}
use Rattle.bench.proofs.open_bench.OpenBench.settle.Goals as goal

pub returns-clause-lawful : goal.returns-clause-lawful
returns-clause-lawful g c = settling_takes g.L.System.means g.R.System.means g.met.L.System.limits g.met.R.System.limits _ _ (sym c.self.view_is)
