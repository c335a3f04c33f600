use Rattle.std.proofs.Common.{sym}
use Rattle.pair.specs.Joining.{joined_wide}
use Rattle.bench.proofs.Answering.{names_alike}
use Rattle.bench.proofs.settled_bench.SettledBench.one_class.Goals as goal

pub returns : goal.returns
returns g c =
    let pair = c.self.inside.pair in
    let wide = joined_wide (g.L.System.means pair.left) (g.R.System.means pair.right) (g.met.L.System.limits pair.left) (g.met.R.System.limits pair.right) in
    rw (sym c.self.view_is) (names_alike _ wide c.self.inside.inner.classes c.self.invariant.classes c.args.s c.args.t c.name.result c.name-2.result c.name.ensures.value c.name-2.ensures.value)
