use Rattle.std.proofs.Common.{◌≡◌, ℕ}
use Rattle.refine.specs.Codes.{coded}
use Rattle.refine.specs.ByteMarks.{byte_marked}
use Rattle.telling.proofs.choosing.first_unlike.Given as goal

abbrev pub invariant-loop-step : goal.invariant-loop-step
invariant-loop-step g l = (i : ℕ) → byte_marked l.marks i ≡ coded l.names l.yielded i
