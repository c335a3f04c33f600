use Rattle.std.proofs.Common.{sym}
use Rattle.bench.proofs.Taking.{entering_takes}
use Rattle.bench.proofs.open_bench.OpenBench.enter.Goals as goal

pub returns-clause-lawful : goal.returns-clause-lawful
returns-clause-lawful g c = rw (sym c.self.view_is) (entering_takes g.L.System.means g.R.System.means g.met.L.System.limits g.met.R.System.limits _ _ _ _ c.enter.ensures.answer c.enter.ensures.after)
