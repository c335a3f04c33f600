use Rattle.std.proofs.Common.{rules, ◌≡◌, ◌++◌, string_bytes, All, ◌∙◌, sym, ap, subst}
use Rattle.hml.specs.Distinguishing.{formula_of_lines}
use Rattle.grammar.specs.Verdict.{Is}
use Rattle.grammar.specs.Writing.{formula_text}
use Rattle.grammar.proofs.Written.{written}
use Rattle.formula_writing.specs.LineTexts.{IsAction, line_text}
use Rattle.formula_writing.proofs.Joints.{first_text, told_actions}
use Rattle.formula_writing.proofs.lines.write_lines.Goals as goal

-- What is written is the text of the first line's formula.
written_text : (c : goal.In_ok-write_line) → string_bytes c.write_line.new.out ≡ formula_text (formula_of_lines c.args.lines.now)
written_text c = c.in_ok-write_line.ensures ∙ ap (λ bs. bs ++ line_text c.args.lines.now 0) c.new-text.ensures.bytes ∙ sym (first_text c.args.lines.now)

pub returns-clause-text : goal.returns-clause-text
returns-clause-text c = written_text c

pub returns-clause-read : goal.returns-clause-read
returns-clause-read c =
    let actions : All IsAction c.args.lines.now = search rules in
    subst (λ t. Is t (formula_of_lines c.args.lines.now)) (sym (written_text c)) (written (formula_of_lines c.args.lines.now) (told_actions c.args.lines.now actions))
