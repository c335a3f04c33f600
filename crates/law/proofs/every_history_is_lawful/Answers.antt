use Rattle.law.proofs.every_history_is_lawful.Goals as goal
use Rattle.law.proofs.Lawful.{every_history_is_lawful}

pub returns : goal.returns
returns c = every_history_is_lawful
