use Rattle.hml.proofs.worked_examples_hold.Goals as goal
use Rattle.hml.proofs.Working.{worked_hold}
use Rattle.hml.proofs.Tracing.{traces_do_not_decide}

pub returns : goal.returns
returns c = record { facts = worked_hold; traces = traces_do_not_decide }
