use Rattle.std.proofs.Common.{rules}
use Rattle.sheet.proofs.Splitting.{line_read}
use Rattle.sheet.proofs.lines.Lines.any_line.Goals as goal

pub returns-clause-line : goal.returns-clause-line
returns-clause-line c =
    line_read c.args.self.now.cursor c.until-line.new.self c.pass.new.self (search rules) c.until-line.ensures.part c.until-line.ensures.on c.pass.ensures.value c.pass.ensures.on
