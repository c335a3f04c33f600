use Rattle.std.proofs.Common.{rules, ◌∙◌, sym, ap, Some}
use Rattle.std.proofs.lemmas.Result.{err_from_is_err_and}
use Rattle.formula_text.proofs.Acting.{silent, receives, sends, no_action, no_sent}
use Rattle.formula_text.proofs.Passing.{is_other, is_none}
use Rattle.formula_text.proofs.reader.Reader.action.Goals as goal
use Rattle.formula_text.proofs.reader.Reader.action.Goals.{in_default-via-in-Some+in_default, in_default-via-in_default}

pub returns-in-Some-eq42 : goal.returns-in-Some-eq42
returns-in-Some-eq42 c =
    silent c.next_mark.ensures.spaced (sym c.next_mark.ensures.value ∙ c.in-Some-eq42.is ∙ ap Some c.in-Some-eq42.field-0-test) c.take.ensures

pub returns-in_err-letter-in-Some-eq94 : goal.returns-in_err-letter-in-Some-eq94
returns-in_err-letter-in-Some-eq94 c =
    let p = err_from_is_err_and c.from_residual.result c.from_residual.ensures.1 in
    let e = c.in_err-letter-in-Some-eq94.ensures in
    let stands = sym c.next_mark.ensures.value ∙ c.in-Some-eq94.is ∙ ap Some c.in-Some-eq94.field-0-test in
    rw (p.1, p.2, e.0) (no_sent c.next_mark.ensures.spaced stands c.take-in-Some-eq94.ensures c.next_mark-in-Some-eq94.ensures.spaced c.next_mark-in-Some-eq94.ensures.other e.1)

pub returns-in_err-letter-in_default : goal.returns-in_err-letter-in_default
returns-in_err-letter-in_default c =
    let p = err_from_is_err_and c.from_residual-in_err-letter-in_default.result c.from_residual-in_err-letter-in_default.ensures.1 in
    let e = c.in_err-letter-in_default.ensures in
    let next = c.next_mark.ensures in
    elim c.in_default.branch [
      | in_default-via-in-Some+in_default w ↦
          let is = sym next.value ∙ w.in_default.is in
          rw (p.1, p.2, e.0) (no_action next.spaced next.other (is_other _ 42 (search rules) w.in_default.field-0-test.0.1) (is_other _ 94 (search rules) w.in_default.field-0-test.1) e.1)
      | in_default-via-in_default w ↦
          let is = sym next.value ∙ w.in_default.is in
          rw (p.1, p.2, e.0) (no_action next.spaced next.other (is_none 42 is) (is_none 94 is) e.1)
    ]

pub returns-in_ok-letter-in-Some-eq94 : goal.returns-in_ok-letter-in-Some-eq94
returns-in_ok-letter-in-Some-eq94 c =
    let x = c.in_ok-letter-in-Some-eq94 in
    let stands = sym c.next_mark.ensures.value ∙ c.in-Some-eq94.is ∙ ap Some c.in-Some-eq94.field-0-test in
    sends x.field-0.number x.field-0.below c.next_mark.ensures.spaced stands c.take-in-Some-eq94.ensures c.next_mark-in-Some-eq94.ensures.spaced x.ensures.0 x.ensures.1

pub returns-in_ok-letter-in_default : goal.returns-in_ok-letter-in_default
returns-in_ok-letter-in_default c =
    let x = c.in_ok-letter-in_default in
    receives x.field-0.number x.field-0.below c.next_mark.ensures.spaced x.ensures.0 x.ensures.1
