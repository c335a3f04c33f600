use Rattle.std.proofs.Common.{◌∙◌, arith}
use Rattle.rows.proofs.Numbering.{too_large}
use Rattle.rows.proofs.numerals.digits.Goals as goal

pub returns-in_err-number : goal.returns-in_err-number
returns-in_err-number c = rw c.from_residual.ensures (λ n small.
    let large = too_large c.args.field.now c.loop-b.b-index c.loop-b.number c.loop-b-test.true (c.loop-b.invariant.1 ∙ small.0) c.in_err-number.ensures in
    omega (arith, large, c.loop-b.invariant.2, small.1, small.2))
