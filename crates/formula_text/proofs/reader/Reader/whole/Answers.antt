use Rattle.std.proofs.Common.{◌∙◌, sym}
use Rattle.std.proofs.lemmas.Result.{err_from_is_err_and}
use Rattle.formula_text.proofs.Passing.{is_there, is_away}
use Rattle.formula_text.proofs.Ending.{whole_stops, whole_read, not_ended}
use Rattle.formula_text.proofs.reader.Reader.whole.Goals as goal

pub returns-in_err-ors : goal.returns-in_err-ors
returns-in_err-ors c =
    let p = err_from_is_err_and c.from_residual.result c.from_residual.ensures.1 in
    rw (p.1, p.2) (λ s places unread. whole_stops unread c.in_err-ors.field-0.0 c.in_err-ors.ensures.read.0)

pub returns-then-is_some : goal.returns-then-is_some
returns-then-is_some c =
    let x = is_there c.peek.result (sym c.is_some.ensures ∙ c.if-is_some.true) in
    let read = c.in_ok-ors.ensures.read in
    rw c.malformed.ensures (λ s places unread. not_ended unread read.0 x.0 read.1 (sym c.peek.ensures ∙ x.1))

pub returns : goal.returns
returns c = λ s places unread. whole_read unread c.in_ok-ors.ensures.read.0 (sym c.peek.ensures ∙ is_away c.peek.result (sym c.is_some.ensures ∙ c.if-is_some.false))
