use Rattle.std.proofs.Common.{◌≡◌, ℕ, Bool, true, false, Some, ◌∙◌, ◌⊎◌, inl, inr, sym, ap, subst}
use Rattle.formula.specs.declared.entry.Entry.{Entry}
use Rattle.formula.specs.declared.entry.Entry.TheVariants.{True, False}
use Rattle.grammar.specs.Machine.{initial}
use Rattle.formula_text.specs.Listing.{constant_entry}
use Rattle.formula_text.specs.Phrases.{Put}
use Rattle.std.proofs.lemmas.Result.{err_from_is_err_and}
use Rattle.formula_text.proofs.Opening.{constant_many, constant_stops, constant_read}
use Rattle.formula_text.proofs.reader.Reader.constant.Goals as goal
use Rattle.formula_text.proofs.reader.Reader.constant.Goals.{then-holds, else-holds}

pub returns-in_err-begin : goal.returns-in_err-begin
returns-in_err-begin c =
    let p = err_from_is_err_and c.from_residual.result c.from_residual.ensures.1 in
    let e = c.in_err-begin.ensures in
    rw (p.1, p.2, e.0) (λ d low. constant_many c.args.self.now c.args.holds c.requires e.1)

-- The letter and the entry of the constant.
letter_of : (w : Bool) (p : ℕ × Entry) → (w ≡ true) × (p ≡ (116, True)) ⊎ (w ≡ false) × (p ≡ (102, False)) → (p.0 ≡ initial w) × (p.1 ≡ constant_entry w)
letter_of w p (inl h) = (ap (λ x. x.0) h.1 ∙ ap initial (sym h.0), ap (λ x. x.1) h.1 ∙ ap constant_entry (sym h.0))
letter_of w p (inr h) = (ap (λ x. x.0) h.1 ∙ ap initial (sym h.0), ap (λ x. x.1) h.1 ∙ ap constant_entry (sym h.0))

pub returns-in_err-expect : goal.returns-in_err-expect
returns-in_err-expect c =
    let p = err_from_is_err_and c.from_residual-in_err-expect.result c.from_residual-in_err-expect.ensures.1 in
    let e = c.in_err-expect.ensures in
    let l = letter_of c.args.holds c.if-holds.letter (elim c.if-holds.branch [ then-holds w ↦ inl (w.if-holds.true, w.letter-is) | else-holds w ↦ inr (w.if-holds.false, w.letter-is) ]) in
    rw (p.1, p.2, e.0) (λ d low. constant_stops c.args.holds low c.requires c.in_ok-begin.ensures (λ is. e.1 (is ∙ ap Some (sym l.0))))

pub returns : goal.returns
returns c =
    let l = letter_of c.args.holds c.if-holds.letter (elim c.if-holds.branch [ then-holds w ↦ inl (w.if-holds.true, w.letter-is) | else-holds w ↦ inr (w.if-holds.false, w.letter-is) ]) in
    λ d low. constant_read c.args.holds low c.requires c.in_ok-begin.ensures (c.in_ok-expect.ensures.0 ∙ ap Some l.0) c.in_ok-expect.ensures.1 (subst (λ e. Put c.expect.new.self c.put.new.self e c.put.result) l.1 c.put.ensures)
