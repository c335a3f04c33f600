use Rattle.hml.proofs.distinguishing_formulas_are_defined.Goals as goal
use Rattle.hml.proofs.Characterised.{unlike_lines_exist, lines_are_one, lines_distinguish}

pub returns : goal.returns
returns c = record { exist = unlike_lines_exist; one = lines_are_one; distinguish = lines_distinguish }
