use Rattle.std.proofs.Common.{◌++◌, ◌∙◌, sym, ap, subst}
use Rattle.grammar.proofs.Written.{written}
use Rattle.grammar.specs.Verdict.{Is}
use Rattle.grammar.specs.Writing.{formula_text}
use Rattle.formula.specs.Entries.{formula_at, AllSound}
use Rattle.formula_writing.proofs.Texts.{entry_actions}
use Rattle.formula_writing.proofs.writing.write.Goals as goal

pub returns-clause-read : goal.returns-clause-read
returns-clause-read c =
    let held = c.as_slice.ensures.value in
    let text = c.in_ok-write_at.ensures ∙ ap (λ bs. bs ++ formula_text (formula_at c.as_slice.result.now c.args.number)) c.new-text.ensures.bytes ∙ ap (λ es. formula_text (formula_at es c.args.number)) held in
    subst (λ t. Is t (formula_at c.args.held.now c.args.number)) (sym text)
    (written (formula_at c.args.held.now c.args.number) (entry_actions c.args.held.now (subst AllSound held c.as_slice.ensures.sound) c.args.number))
