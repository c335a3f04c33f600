use Rattle.std.proofs.Common.{[], rules}
use Rattle.std.proofs.lemmas.List.{get_or_past}
use Rattle.rows.specs.Format.{Transition, IsRow}
use Rattle.rows.specs.Held.{held}
use Rattle.rows.proofs.Numbering.{none_written}
use Rattle.rows.proofs.columns.Columns.row_of.Goals as goal

pub returns-in_err-part : goal.returns-in_err-part
returns-in_err-part c =
    let no_row : (t : Transition) → IsRow c.args.self (held c.args.fields.now) t → ⊥ =
    λ t row. none_written _ t.from (get_or_past (held c.args.fields.now) c.args.self.from [] c.in_err-part.ensures) row.from in
    search rules

pub returns-in_err-part-3 : goal.returns-in_err-part-3
returns-in_err-part-3 c =
    let no_row : (t : Transition) → IsRow c.args.self (held c.args.fields.now) t → ⊥ =
    λ t row. none_written _ t.to (get_or_past (held c.args.fields.now) c.args.self.to [] c.in_err-part-3.ensures) row.to in
    search rules
