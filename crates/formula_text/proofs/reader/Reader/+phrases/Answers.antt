use Rattle.std.proofs.Common.{rules, ◌<◌, Some, ◌∙◌, sym, ap, subst, arith}
use Rattle.std.proofs.lemmas.Option.{slice_get_within}
use Rattle.std.proofs.lemmas.Result.{err_from_is_err_and}
use Rattle.formula_text.specs.Readers.{text, at}
use Rattle.formula_text.proofs.Passing.{is_mark, is_other, is_none}
use Rattle.formula_text.proofs.Opening.{modal_many, modal_no_action, modal_not_shut, modal_stops, modal_read, too_deep, bracket_stops, not_closed, bracket_read, read_led, none_begins}
use Rattle.formula_text.specs.Listing.{modal_entry}
use Rattle.formula_text.specs.Phrases.{Put}
use Rattle.formula_text.proofs.Sizes.{room}
use Rattle.formula_text.proofs.Joining.{and_many, and_stops, and_more, or_many, or_stops, or_more, past_put}
use Rattle.formula_text.proofs.reader.Reader.+phrases.Goals as goal
use Rattle.formula_text.proofs.reader.Reader.+phrases.Goals.{unary-in_default-via-in-Some+in_default, unary-in_default-via-in_default}

pub ands-returns-in_err-begin-clause-read : goal.ands-returns-in_err-begin-clause-read
ands-returns-in_err-begin-clause-read t c =
    let p = err_from_is_err_and c.from_residual-in_err-begin.result c.from_residual-in_err-begin.ensures.1 in
    let stands = is_mark c.next_mark.result 38 (sym c.eq.ensures ∙ c.loop-self-test.true) in
    let e = c.in_err-begin.ensures in
    rw (p.1, p.2, e.0) (and_many c.requires c.loop-self.invariant.0 c.next_mark.ensures.spaced (sym c.next_mark.ensures.value ∙ stands) e.1, tt)

pub ands-returns-in_err-part-clause-read : goal.ands-returns-in_err-part-clause-read
ands-returns-in_err-part-clause-read t c =
    let p = err_from_is_err_and c.from_residual-in_err-part.result c.from_residual-in_err-part.ensures.1 in
    let stands = is_mark c.next_mark.result 38 (sym c.eq.ensures ∙ c.loop-self-test.true) in
    rw (p.1, p.2) (and_stops c.in_err-part.field-0.0 c.requires c.loop-self.invariant.1 c.loop-self.invariant.0 c.next_mark.ensures.spaced (sym c.next_mark.ensures.value ∙ stands) c.in_ok-begin.ensures c.in_err-part.ensures.read, tt)

pub ands-put-whole-requires : goal.ands-put-whole-requires
ands-put-whole-requires t c =
    let passed = c.in_ok-begin.ensures in
    room c.next_mark.new.self passed.same.begun passed.entries c.in_ok-part.ensures.read

pub ands-loop-self-preserved : goal.ands-loop-self-preserved
ands-loop-self-preserved t c =
    let stands = is_mark c.next_mark.result 38 (sym c.eq.ensures ∙ c.loop-self-test.true) in (
      and_more c.requires c.loop-self.invariant.1 c.loop-self.invariant.0 c.next_mark.ensures.spaced (sym c.next_mark.ensures.value ∙ stands) c.in_ok-begin.ensures c.in_ok-part.ensures.read c.put-whole.ensures,
      c.in_ok-part.ensures.depth ∙ c.loop-self.invariant.1,
    )

pub ors-returns-in_err-begin-clause-read : goal.ors-returns-in_err-begin-clause-read
ors-returns-in_err-begin-clause-read t c =
    let p = err_from_is_err_and c.from_residual-in_err-begin.result c.from_residual-in_err-begin.ensures.1 in
    let stands = is_mark c.peek.result 124 (sym c.eq.ensures ∙ c.loop-self-test.true) in
    let e = c.in_err-begin.ensures in
    rw (p.1, p.2, e.0) (or_many c.loop-self.invariant.0 (sym c.peek.ensures ∙ stands) e.1, tt)

pub ors-returns-in_err-part-clause-read : goal.ors-returns-in_err-part-clause-read
ors-returns-in_err-part-clause-read t c =
    let p = err_from_is_err_and c.from_residual-in_err-part.result c.from_residual-in_err-part.ensures.1 in
    let stands = is_mark c.peek.result 124 (sym c.eq.ensures ∙ c.loop-self-test.true) in
    rw (p.1, p.2) (or_stops c.in_err-part.field-0.0 c.requires c.loop-self.invariant.2 c.loop-self.invariant.0 (sym c.peek.ensures ∙ stands) c.in_ok-begin.ensures c.in_err-part.ensures.read.0, tt)

pub ors-put-whole-requires : goal.ors-put-whole-requires
ors-put-whole-requires t c =
    let passed = c.in_ok-begin.ensures in
    room c.loop-self.self passed.same.begun passed.entries c.in_ok-part.ensures.read.0

pub ors-loop-self-preserved : goal.ors-loop-self-preserved
ors-loop-self-preserved t c =
    let stands = is_mark c.peek.result 124 (sym c.eq.ensures ∙ c.loop-self-test.true) in (
      or_more c.requires c.loop-self.invariant.2 c.loop-self.invariant.0 (sym c.peek.ensures ∙ stands) c.in_ok-begin.ensures c.in_ok-part.ensures.read.0 c.in_ok-part.ensures.read.1 c.put-whole.ensures,
      past_put c.put-whole.ensures c.in_ok-part.ensures.read.1,
      c.in_ok-part.ensures.depth ∙ c.loop-self.invariant.2,
    )

pub modal-returns-in_err-begin-clause-read : goal.modal-returns-in_err-begin-clause-read
modal-returns-in_err-begin-clause-read t c =
    let p = err_from_is_err_and c.from_residual.result c.from_residual.ensures.1 in
    let e = c.in_err-begin.ensures in
    rw (p.1, p.2, e.0) (modal_many c.args.self.now c.args.modality c.requires.mark e.1)

pub modal-returns-in_err-action-clause-read : goal.modal-returns-in_err-action-clause-read
modal-returns-in_err-action-clause-read t c =
    let p = err_from_is_err_and c.from_residual-in_err-action.result c.from_residual-in_err-action.ensures.1 in
    rw (p.1, p.2) (modal_no_action c.args.modality c.requires.low c.requires.mark c.in_ok-begin.ensures c.in_err-action.field-0.0 (c.in_err-action.ensures c.args.modality c.args.depth.now c.requires.low))

pub modal-returns-in_err-expect-clause-read : goal.modal-returns-in_err-expect-clause-read
modal-returns-in_err-expect-clause-read t c =
    let p = err_from_is_err_and c.from_residual-in_err-expect.result c.from_residual-in_err-expect.ensures.1 in
    let e = c.in_err-expect.ensures in
    rw (p.1, p.2, e.0) (modal_not_shut c.args.modality c.requires.low c.requires.mark c.in_ok-begin.ensures c.in_ok-action.ensures c.next_mark.ensures.spaced c.next_mark.ensures.other (λ is. e.1 (is ∙ ap Some (sym c.closing.ensures))))

pub modal-returns-in_err-part-clause-read : goal.modal-returns-in_err-part-clause-read
modal-returns-in_err-part-clause-read t c =
    let p = err_from_is_err_and c.from_residual-in_err-part.result c.from_residual-in_err-part.ensures.1 in
    let over = c.in_ok-expect.ensures in
    rw (p.1, p.2) (modal_stops c.args.modality c.requires.low c.requires.mark c.in_ok-begin.ensures c.in_ok-action.ensures c.next_mark.ensures.spaced (over.0 ∙ ap Some c.closing.ensures) over.1 c.in_err-part.field-0.0 c.in_err-part.ensures.read)

pub modal-put-requires : goal.modal-put-requires
modal-put-requires t c =
    let passed = c.in_ok-begin.ensures in
    let action = c.in_ok-action.ensures in
    let spaced = c.next_mark.ensures.spaced in
    let over = c.in_ok-expect.ensures.1 in
    room c.args.self.now (omega (arith, over.same.begun, spaced.same.begun, action.same.begun, passed.same.begun)) (over.entries ∙ spaced.entries ∙ action.entries ∙ passed.entries) c.in_ok-part.ensures.read

pub modal-returns-clause-read : goal.modal-returns-clause-read
modal-returns-clause-read t c =
    let over = c.in_ok-expect.ensures in
    modal_read c.args.modality c.requires.low c.requires.mark c.in_ok-begin.ensures c.in_ok-action.ensures c.next_mark.ensures.spaced (over.0 ∙ ap Some c.closing.ensures) over.1 c.in_ok-part.ensures.read (subst (λ e. Put c.unary.new.self c.put.new.self e c.put.result) (c.entry_of.ensures ∙ ap (λ n. modal_entry c.args.modality n c.in_ok-part.part) c.from.ensures.0) c.put.ensures)

pub bracketed-returns-then-depth-eq-DEEPEST-clause-read : goal.bracketed-returns-then-depth-eq-DEEPEST-clause-read
bracketed-returns-then-depth-eq-DEEPEST-clause-read t c = rw c.place.ensures (too_deep c.args.self.now c.if-depth-eq-DEEPEST.true c.requires.mark)

pub bracketed-take-requires : goal.bracketed-take-requires
bracketed-take-requires t c = slice_get_within (text c.args.self.now) (at c.args.self.now) 40 c.requires.mark

pub bracketed-returns-in_err-part-clause-read : goal.bracketed-returns-in_err-part-clause-read
bracketed-returns-in_err-part-clause-read t c =
    let p = err_from_is_err_and c.from_residual.result c.from_residual.ensures.1 in
    let low : c.args.depth.now < 16 = omega (arith, c.requires.low, c.if-depth-eq-DEEPEST.false) in
    rw (p.1, p.2) (bracket_stops low c.requires.mark c.take.ensures c.in_err-part.field-0.0 c.in_err-part.ensures.read.0)

pub bracketed-returns-in_err-expect-clause-read : goal.bracketed-returns-in_err-expect-clause-read
bracketed-returns-in_err-expect-clause-read t c =
    let p = err_from_is_err_and c.from_residual-in_err-expect.result c.from_residual-in_err-expect.ensures.1 in
    let e = c.in_err-expect.ensures in
    let low : c.args.depth.now < 16 = omega (arith, c.requires.low, c.if-depth-eq-DEEPEST.false) in
    let x = c.in_ok-part.ensures.read in
    rw (p.1, p.2, e.0) (not_closed low c.requires.mark c.take.ensures x.0 x.1 e.1)

pub bracketed-returns-clause-read : goal.bracketed-returns-clause-read
bracketed-returns-clause-read t c =
    let e = c.in_ok-expect.ensures in
    let low : c.args.depth.now < 16 = omega (arith, c.requires.low, c.if-depth-eq-DEEPEST.false) in
    bracket_read low c.requires.mark c.take.ensures c.in_ok-part.ensures.read.0 e.0 e.1

pub unary-returns-in-Some-eq116-clause-read : goal.unary-returns-in-Some-eq116-clause-read
unary-returns-in-Some-eq116-clause-read t c = read_led c.constant.new.self c.constant.result c.requires c.next_mark.ensures.spaced (c.constant.ensures c.args.depth.now c.requires)

pub unary-returns-in-Some-eq102-clause-read : goal.unary-returns-in-Some-eq102-clause-read
unary-returns-in-Some-eq102-clause-read t c = read_led c.constant-in-Some-eq102.new.self c.constant-in-Some-eq102.result c.requires c.next_mark.ensures.spaced (c.constant-in-Some-eq102.ensures c.args.depth.now c.requires)

pub unary-returns-in_default-clause-read : goal.unary-returns-in_default-clause-read
unary-returns-in_default-clause-read t c =
    let next = c.next_mark.ensures in
    elim c.in_default.branch [
      | unary-in_default-via-in-Some+in_default w ↦
          let is = sym next.value ∙ w.in_default.is in
          let test = w.in_default.field-0-test in
          rw c.malformed.ensures (none_begins c.requires next.spaced next.other (is_other _ 116 (search rules) test.0.0.0.0.1) (is_other _ 102 (search rules) test.0.0.0.1) (is_other _ 60 (search rules) test.0.0.1) (is_other _ 91 (search rules) test.0.1) (is_other _ 40 (search rules) test.1))
      | unary-in_default-via-in_default w ↦
          let is = sym next.value ∙ w.in_default.is in
          rw c.malformed.ensures (none_begins c.requires next.spaced next.other (is_none 116 is) (is_none 102 is) (is_none 60 is) (is_none 91 is) (is_none 40 is))
    ]
