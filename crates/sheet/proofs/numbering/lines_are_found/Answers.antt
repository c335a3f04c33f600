use Rattle.sheet.proofs.Splitting.{lines_are_found}
use Rattle.sheet.proofs.numbering.lines_are_found.Goals as goal

pub returns : goal.returns
returns c = lines_are_found
