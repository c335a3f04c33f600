use Rattle.refine.specs.Signatures.{Signed}
use Rattle.refine.proofs.level.Level.sign.Given as goal

abbrev pub invariant-loop-step : goal.invariant-loop-step
invariant-loop-step g l = Signed l.self.names l.yielded l.marks l.print
