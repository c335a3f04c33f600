use Rattle.formula.proofs.appending_keeps_meaning.Goals as goal
use Rattle.formula.proofs.Appending.{appending_keeps, appending_adds, appending_is_sound}

pub returns : goal.returns
returns c = record { keeps = appending_keeps; adds = appending_adds; sound = appending_is_sound }
