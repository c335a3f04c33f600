use Rattle.law.proofs.answers_are_one.Goals as goal
use Rattle.law.proofs.Judging.{entered_is_one, ruled_is_one, compared_is_one}
use Rattle.law.proofs.Reaching.{reached_is_one}
use Rattle.law.proofs.Telling.{told_is_one}

pub returns : goal.returns
returns c = record { entered = entered_is_one; ruled = ruled_is_one; reached = reached_is_one; compared = compared_is_one; told = told_is_one }
