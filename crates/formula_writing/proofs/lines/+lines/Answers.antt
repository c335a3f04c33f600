use Rattle.std.proofs.Common.{◌≡◌, ◌+◌, ◌<◌, ◌++◌, [], ◌∷◌, codes, string_bytes, length, get_or, min, max, ◌∙◌, sym, ap, subst, arith}
use Rattle.std.proofs.lemmas.List.{append_assoc}
use Rattle.actions.specs.Actions.{number_of, Numbered}
use Rattle.actions.specs.Text.{action_text}
use Rattle.hml.specs.declared.line.Line.{Line}
use Rattle.hml.specs.declared.line.Modality.TheVariants.{May}
use Rattle.grammar.specs.Machine.{opener, closer}
use Rattle.formula_writing.specs.LineTexts.{line_text, joint, joined_text, inside_text}
use Rattle.formula_writing.proofs.Joints.{joined_step, inside_more, line_text_is}
use Rattle.formula_writing.proofs.Texts.{written_two, written_four, marked}
use Rattle.formula_writing.proofs.lines.+lines.Goals as goal

pub write_inside-returns : goal.write_inside-returns
write_inside-returns t c =
    let ls = c.args.lines.now in
    let m = c.args.modality in
    let more : c.args.first + 1 < c.args.last = omega (arith, c.if-first-last.false, c.if-first-last-2.false) in
    written_four c.write-2.result (string_bytes c.args.out.now) (string_bytes c.write.new.self) (string_bytes c.write_line-2.new.out) (string_bytes c.write_joined.new.out) (string_bytes c.write-2.new.self)
    (codes "(") (line_text ls c.args.first) (joined_text ls m (c.args.first + 1) c.args.last) (codes ")") (inside_text ls m c.args.first c.args.last)
    c.write-2.ensures.bytes c.in_ok-write_joined.ensures c.in_ok-write_line.ensures c.in_ok-write.ensures.bytes (sym (inside_more ls m c.args.first c.args.last more))

pub write_joined-loop-child-preserved : goal.write_joined-loop-child-preserved
write_joined-loop-child-preserved t c =
    let ls = c.args.lines.now in
    let m = c.args.modality in
    let child = c.loop-child.child in
    let rest = joined_text ls m (child + 1) c.args.last in
    let out = string_bytes c.loop-child.out in
    ap (λ bs. bs ++ rest) (c.in_ok-write_line.ensures ∙ ap (λ bs. bs ++ line_text ls child) c.in_ok-write_joint.ensures)
    ∙ append_assoc (out ++ joint m) (line_text ls child) rest ∙ append_assoc out (joint m) (line_text ls child ++ rest)
    ∙ ap (λ bs. out ++ bs) (sym (joined_step ls m child c.args.last c.loop-child-test.true)) ∙ c.loop-child.invariant

pub write_line-returns : goal.write_line-returns
write_line-returns t c =
    let ls = c.args.lines.now in
    let n = c.args.number in
    let d : Line = record { modality = May; action = 0; first = 0; count = 0 } in
    let l = get_or ls n d in
    let first = c.max-first.result in
    let last = c.min-last.result in
    let begins : first ≡ max l.first (n + 1) = c.max-first.ensures ∙ ap (λ k. max k (n + 1)) c.from.ensures in
    let ends : last ≡ min (first + l.count) (length ls) = omega (arith, c.min-last.ensures, c.saturating_add.ensures, c.from-2.ensures, c.requires.there) in
    let number : number_of c.unwrap-action.result ≡ l.action = subst (Numbered l.action) c.unwrap-action.ensures c.try_from.ensures in
    let before = c.in_ok-write_marked.ensures ∙ ap (λ k. string_bytes c.args.out.now ++ opener l.modality ∷ (action_text k ++ closer l.modality ∷ [])) number in
    written_two c.write_inside.result (string_bytes c.args.out.now) (string_bytes c.write_marked.new.out) (string_bytes c.write_inside.new.out)
    (opener l.modality ∷ (action_text l.action ++ closer l.modality ∷ [])) (inside_text ls l.modality first last) (line_text ls n) c.write_inside.ensures before
    (marked (opener l.modality) (closer l.modality) (action_text l.action) (inside_text ls l.modality first last) ∙ sym (line_text_is d ls n first last c.requires.there begins ends))
