use Rattle.formula.specs.declared.entry.Entry.TheVariants.{True, False, And, Or, May, Must}
use Rattle.std.proofs.Common.{◌++◌, [], ◌∷◌, codes, slice_index_or, string_bytes, ◌∙◌, sym, ap, subst}
use Rattle.std.proofs.lemmas.Result.{on_ok_weaker}
use Rattle.actions.specs.Actions.{Numbered}
use Rattle.actions.specs.Text.{action_text}
use Rattle.formula.specs.Entries.{formulas, formula_at}
use Rattle.grammar.specs.Grammar.{unary, ands, ors}
use Rattle.grammar.specs.Writing.{text_at}
use Rattle.formula_writing.specs.Brackets.{level_of, bracketed}
use Rattle.formula_writing.proofs.Texts.{entry_formula, plain_and, plain_or, in_brackets, written_two, written_three, marked}
use Rattle.formula_writing.proofs.writing.+write_at.Goals as goal

pub returns-then-brackets : goal.returns-then-brackets
returns-then-brackets t c =
    let es = c.args.entries.now in
    let e = slice_index_or es c.from.result True in
    let here = sym (ap (λ n. slice_index_or es n True) c.from.ensures) in
    let made = entry_formula es c.requires.sound c.args.number c.requires.there e here in
    let is = ap (text_at (level_of c.args.level)) made ∙ in_brackets c.args.level (formulas [] es) e (sym c.brackets.ensures ∙ c.if-brackets.true) ∙ ap (λ f. codes "(" ++ (text_at ors f ++ codes ")")) (sym made) in
    written_three c.write-then-brackets.result (string_bytes c.args.out.now) (string_bytes c.write.new.self) (string_bytes c.write_at.new.out) (string_bytes c.write-then-brackets.new.self) (codes "(") (text_at ors (formula_at es c.args.number)) (codes ")") (text_at (level_of c.args.level) (formula_at es c.args.number)) c.write-then-brackets.ensures.bytes c.in_ok-write_at.ensures c.in_ok-write.ensures.bytes (sym is)

pub returns-in-True : goal.returns-in-True
returns-in-True t c =
    let es = c.args.entries.now in
    let here = sym (ap (λ n. slice_index_or es n True) c.from.ensures) in
    let made = entry_formula es c.requires.sound c.args.number c.requires.there True (here ∙ c.in-True.is) in
    on_ok_weaker c.write-in-True.result (λ h. h ∙ ap (λ f. string_bytes c.args.out.now ++ text_at (level_of c.args.level) f) (sym made)) c.write-in-True.ensures.bytes

pub returns-in-False : goal.returns-in-False
returns-in-False t c =
    let es = c.args.entries.now in
    let here = sym (ap (λ n. slice_index_or es n True) c.from.ensures) in
    let made = entry_formula es c.requires.sound c.args.number c.requires.there False (here ∙ c.in-False.is) in
    on_ok_weaker c.write-in-False.result (λ h. h ∙ ap (λ f. string_bytes c.args.out.now ++ text_at (level_of c.args.level) f) (sym made)) c.write-in-False.ensures.bytes

pub returns-in_ok-write-in-And : goal.returns-in_ok-write-in-And
returns-in_ok-write-in-And t c =
    let es = c.args.entries.now in
    let i = c.in-And.i in
    let j = c.in-And.j in
    let here = sym (ap (λ n. slice_index_or es n True) c.from.ensures) in
    let made = entry_formula es c.requires.sound c.args.number c.requires.there (And i j) (here ∙ c.in-And.is) in
    let none = sym (ap (bracketed c.args.level) c.in-And.is) ∙ sym c.brackets.ensures ∙ c.if-brackets.false in
    let is = ap (text_at (level_of c.args.level)) made ∙ plain_and c.args.level i j (formula_at es i) (formula_at es j) none in
    written_three c.write_at-in-And-2.result (string_bytes c.args.out.now) (string_bytes c.write_at-in-And.new.out) (string_bytes c.write-in-And.new.self) (string_bytes c.write_at-in-And-2.new.out) (text_at ands (formula_at es i)) (codes "&") (text_at unary (formula_at es j)) (text_at (level_of c.args.level) (formula_at es c.args.number)) c.write_at-in-And-2.ensures c.in_ok-write-in-And.ensures.bytes c.in_ok-write_at-in-And.ensures (sym is)

pub returns-in_ok-write-in-Or : goal.returns-in_ok-write-in-Or
returns-in_ok-write-in-Or t c =
    let es = c.args.entries.now in
    let i = c.in-Or.i in
    let j = c.in-Or.j in
    let here = sym (ap (λ n. slice_index_or es n True) c.from.ensures) in
    let made = entry_formula es c.requires.sound c.args.number c.requires.there (Or i j) (here ∙ c.in-Or.is) in
    let none = sym (ap (bracketed c.args.level) c.in-Or.is) ∙ sym c.brackets.ensures ∙ c.if-brackets.false in
    let is = ap (text_at (level_of c.args.level)) made ∙ plain_or c.args.level i j (formula_at es i) (formula_at es j) none in
    written_three c.write_at-in-Or-2.result (string_bytes c.args.out.now) (string_bytes c.write_at-in-Or.new.out) (string_bytes c.write-in-Or.new.self) (string_bytes c.write_at-in-Or-2.new.out) (text_at ors (formula_at es i)) (codes "|") (text_at ands (formula_at es j)) (text_at (level_of c.args.level) (formula_at es c.args.number)) c.write_at-in-Or-2.ensures c.in_ok-write-in-Or.ensures.bytes c.in_ok-write_at-in-Or.ensures (sym is)

pub returns-in_ok-write-in-May : goal.returns-in_ok-write-in-May
returns-in_ok-write-in-May t c =
    let es = c.args.entries.now in
    let a = c.in-May.a in
    let i = c.in-May.i in
    let here = sym (ap (λ n. slice_index_or es n True) c.from.ensures) in
    let made = entry_formula es c.requires.sound c.args.number c.requires.there (May a i) (here ∙ c.in-May.is) in
    written_two c.write_at-in-May.result (string_bytes c.args.out.now) (string_bytes c.write-in-May.new.self) (string_bytes c.write_at-in-May.new.out) (60 ∷ (action_text a ++ 62 ∷ [])) (text_at unary (formula_at es i)) (text_at (level_of c.args.level) (formula_at es c.args.number)) c.write_at-in-May.ensures (c.in_ok-write-in-May.ensures.bytes ∙ ap (λ n. string_bytes c.args.out.now ++ 60 ∷ (action_text n ++ 62 ∷ [])) (subst (Numbered a) c.unwrap.ensures c.try_from.ensures)) (marked 60 62 (action_text a) (text_at unary (formula_at es i)) ∙ sym (ap (text_at (level_of c.args.level)) made))

pub returns-in_ok-write-in-Must : goal.returns-in_ok-write-in-Must
returns-in_ok-write-in-Must t c =
    let es = c.args.entries.now in
    let a = c.in-Must.a in
    let i = c.in-Must.i in
    let here = sym (ap (λ n. slice_index_or es n True) c.from.ensures) in
    let made = entry_formula es c.requires.sound c.args.number c.requires.there (Must a i) (here ∙ c.in-Must.is) in
    written_two c.write_at-in-Must.result (string_bytes c.args.out.now) (string_bytes c.write-in-Must.new.self) (string_bytes c.write_at-in-Must.new.out) (91 ∷ (action_text a ++ 93 ∷ [])) (text_at unary (formula_at es i)) (text_at (level_of c.args.level) (formula_at es c.args.number)) c.write_at-in-Must.ensures (c.in_ok-write-in-Must.ensures.bytes ∙ ap (λ n. string_bytes c.args.out.now ++ 91 ∷ (action_text n ++ 93 ∷ [])) (subst (Numbered a) c.unwrap-in-Must.ensures c.try_from-in-Must.ensures)) (marked 91 93 (action_text a) (text_at unary (formula_at es i)) ∙ sym (ap (text_at (level_of c.args.level)) made))
