use Rattle.law.specs.History.Phase.{Open}
use Rattle.history.specs.Noting.{Entered}
use Rattle.history.proofs.Turning.{Run}
use Rattle.history.proofs.lists.enter_all.Given as goal

abbrev pub invariant-loop-call : goal.invariant-loop-call
invariant-loop-call g l = Run g.L.System.means g.R.System.means Entered Open l.initial.bench l.bench l.initial.calls l.calls l.call-index
