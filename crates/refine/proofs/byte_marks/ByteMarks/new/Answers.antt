-- No stamp is the first.
use Rattle.std.proofs.Common.{arith}
use Rattle.std.proofs.lemmas.Bool.{ne_eqb}
use Rattle.refine.proofs.Naming.{zeros}
use Rattle.refine.proofs.byte_marks.ByteMarks.new.Goals as goal

pub invariant_of-result : goal.invariant_of-result
invariant_of-result c = record { under = λ i. omega (arith, zeros 108545 i) }

pub returns : goal.returns
returns c = λ i. ne_eqb _ 1 (λ e. omega (arith, zeros 108545 i, e))
