use Rattle.rows.proofs.Verdicts.{one_verdict}
use Rattle.rows.proofs.reading.verdicts_are_one.Goals as goal

pub returns : goal.returns
returns c = one_verdict
