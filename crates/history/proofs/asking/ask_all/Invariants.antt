use Rattle.law.specs.History.Phase.{Settled}
use Rattle.history.specs.Noting.{Asked}
use Rattle.history.proofs.Turning.{Run}
use Rattle.history.proofs.asking.ask_all.Given as goal

abbrev pub invariant-loop-question : goal.invariant-loop-question
invariant-loop-question g l = Run g.L.System.means g.R.System.means Asked Settled l.initial.bench l.bench l.initial.questions l.questions l.question-index
