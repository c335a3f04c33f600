use Rattle.std.proofs.Common.{rules}
use Rattle.bench.proofs.Taking.{opening_keeps}
use Rattle.bench.proofs.open_bench.OpenBench.open.Goals as goal

pub returns-clause-kept : goal.returns-clause-kept
returns-clause-kept g c = opening_keeps g.L.System.means g.R.System.means g.met.L.System.limits g.met.R.System.limits _ (search rules)
