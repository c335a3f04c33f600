use Rattle.std.proofs.Common.{rules}
use Rattle.rows.proofs.Ways.{none_gone}
use Rattle.rows.proofs.rows.Rows.read_sheet.Goals as goal

pub returns-in_err-columns : goal.returns-in_err-columns
returns-in_err-columns c =
    let refused = c.in_err-columns.ensures c.args.sheet.now (none_gone c.args.sheet.now c.new-lines.result c.new-lines.ensures.unread c.new-lines.ensures.count) in
    search rules

pub read_rows-requires : goal.read_rows-requires
read_rows-requires c = (c.in_ok-columns.ensures c.args.sheet.now (none_gone c.args.sheet.now c.new-lines.result c.new-lines.ensures.unread c.new-lines.ensures.count)).1
