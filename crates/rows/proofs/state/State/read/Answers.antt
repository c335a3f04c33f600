use Rattle.rows.proofs.Numbering.{padded_answered, digits_answered}
use Rattle.rows.proofs.state.State.read.Goals as goal

pub returns-then-not-unpadded : goal.returns-then-not-unpadded
returns-then-not-unpadded c = padded_answered c.args.field.now c.if-not-unpadded.ensures

pub returns : goal.returns
returns c = digits_answered c.args.field.now c.digits.result c.digits.ensures c.if-not-unpadded.ensures
