use Rattle.std.proofs.Common.{refl}
use Rattle.history.proofs.Noting.{enter_noted}
use Rattle.history.proofs.lists.enter.Goals as goal

pub returns : goal.returns
returns g c =
    enter_noted g.L.System.means g.R.System.means _ _ c.args.call.now _ _ _ c.as_slice.ensures.value refl refl c.enter.ensures.systems.0 c.enter.ensures.systems.1 c.enter.ensures.lawful
