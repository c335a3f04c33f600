use Rattle.std.proofs.Common.{rules, List, sym, subst}
use Rattle.rows.specs.Reading.{Begun}
use Rattle.rows.specs.Verdict.{Refused}
use Rattle.rows.specs.declared.row.Row.{Row}
use Rattle.rows.proofs.Ways.{still_headed, row_not, row_read, row_refused, row_over, rows_end}
use Rattle.rows.proofs.rows.Rows.read_rows.Goals as goal

pub returns-in_err-row : goal.returns-in_err-row
returns-in_err-row c = λ s begun.
    let refused =
    row_refused c.loop-next.next-iterator c.next.new.self c.in-Some.next c.in-Some.ensures.steps
    c.args.columns c.loop-next.self.items s (c.loop-next.invariant.1 s begun) c.in-Row.line c.in-Row.is
    c.in_err-row.field-0.0 c.in_err-row.ensures in
    search rules

pub returns-in_err-add : goal.returns-in_err-add
returns-in_err-add c = λ s begun.
    let full = c.in_err-add.ensures in
    let over =
    row_over c.loop-next.next-iterator c.next.new.self c.in-Some.next c.in-Some.ensures.steps
    c.args.columns c.loop-next.self.items s (c.loop-next.invariant.1 s begun) c.in-Row.line c.in-Row.is
    c.in_ok-row.row c.in_ok-row.ensures full.1 in
    let refused : Refused s c.in_err-add.field-0.0 = rw full.0 over in
    search rules

pub loop-next-preserved-in-Continue-branch-2 : goal.loop-next-preserved-in-Continue-branch-2
loop-next-preserved-in-Continue-branch-2 c =
    let gives = c.in-Some.ensures.steps in (
      still_headed c.loop-next.next-iterator c.next.new.self c.in-Some.next gives c.loop-next.invariant.0,
      λ s begun.
          subst (λ (rows : List Row). Begun s c.next.new.self c.args.columns rows) (sym c.in_ok-add.ensures.1)
          (row_read c.loop-next.next-iterator c.next.new.self c.in-Some.next gives
          c.args.columns c.loop-next.self.items s (c.loop-next.invariant.1 s begun) c.in-Row.line c.in-Row.is
          c.in_ok-row.row c.in_ok-row.ensures c.in_ok-add.ensures.0),
    )

pub loop-next-preserved : goal.loop-next-preserved
loop-next-preserved c =
    let gives = c.in-Some.ensures.steps in (
      still_headed c.loop-next.next-iterator c.next.new.self c.in-Some.next gives c.loop-next.invariant.0,
      λ s begun.
          row_not c.loop-next.next-iterator c.next.new.self c.in-Some.next gives
          c.args.columns c.loop-next.self.items s (c.loop-next.invariant.1 s begun) c.loop-next.invariant.0 c.in_default.not-Row,
    )

pub returns : goal.returns
returns c = λ s begun. rows_end s c.loop-next.next-iterator c.next.new.self c.args.columns c.loop-next.self.items (c.loop-next.invariant.1 s begun) c.in-None.ensures.steps
