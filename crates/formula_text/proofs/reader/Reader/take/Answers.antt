use Rattle.std.proofs.Common.{◌+◌, refl, sym, ap, ◌∙◌, arith}
use Rattle.std.proofs.lemmas.Option.{slice_get-get_or}
use Rattle.formula_text.proofs.Passing.{begins_here}
use Rattle.sheet.specs.Parts.{one}
use Rattle.formula_text.specs.Readers.{text, at}
use Rattle.formula_text.proofs.reader.Reader.take.Goals as goal

pub returns-in-Some : goal.returns-in-Some
returns-in-Some c =
    let stands = c.pass.ensures.value ∙ begins_here (text c.args.self.now) (at c.args.self.now) c.in-Some.mark (sym c.peek.ensures ∙ c.in-Some.is) in
    record {
      same = record { text = c.pass.ensures.on.sheet; limit = refl; begun = omega arith };
      entries = refl;
      on = c.pass.ensures.on.on ∙ ap (λ b. at c.args.self.now + one b) stands;
    }

pub returns-in_default : goal.returns-in_default
returns-in_default c =
    let some = slice_get-get_or (text c.args.self.now) (at c.args.self.now) 0 c.requires in
    absurd (c.in_default.not-Some _ (c.peek.ensures ∙ some))
