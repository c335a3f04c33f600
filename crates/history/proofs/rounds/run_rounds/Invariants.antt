use Rattle.law.specs.History.Phase.{Open}
use Rattle.history.specs.Noting.{Back}
use Rattle.history.proofs.Turning.{Run}
use Rattle.history.proofs.rounds.run_rounds.Given as goal

abbrev pub invariant-loop-round : goal.invariant-loop-round
invariant-loop-round g l = Run g.L.System.means g.R.System.means Back Open l.initial.bench l.bench l.initial.rounds l.rounds l.round-index
