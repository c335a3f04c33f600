-- How many entries a formula is written as, and that there is room for its own. Assumes nothing.
use Rattle.std.proofs.Common.{◌≡◌, ℕ, ◌+◌, ◌<◌, List, [], ◌∷◌, ◌++◌, length, ap, arith}
use Rattle.std.proofs.lemmas.List.{length-append}
use Rattle.hml.specs.Logic.{Formula}
use Rattle.hml.specs.Logic.Formula.{tru, fls, both, either, may, must}
use Rattle.formula.specs.declared.entry.Entry.{Entry}
use Rattle.formula.specs.declared.entry.Entry.TheVariants.{And, Or, May, Must}
use Rattle.grammar.specs.Grammar.{Level, size}
use Rattle.grammar.specs.Machine.{Ctx, State}
use Rattle.formula_text.specs.Listing.{last_of, listed}
use Rattle.formula_text.specs.Readers.{held}
use Rattle.formula_text.specs.Phrases.{Phrase}
use Rattle.formula_text.specs.declared.reader.Reader.{Reader}

one_more : (es : List Entry) (e : Entry) → length (es ++ e ∷ []) ≡ length es + 1
one_more es e = length-append es (e ∷ [])

-- As many as it has constructors.
pub length_listed : (es : List Entry) (f : Formula) → length (listed es f) ≡ length es + size f
length_listed es tru = one_more es _
length_listed es fls = one_more es _
length_listed es (both f g) = omega (arith, one_more (listed (listed es f) g) (And (last_of (listed es f)) (last_of (listed (listed es f) g))), length_listed (listed es f) g, length_listed es f)
length_listed es (either f g) = omega (arith, one_more (listed (listed es f) g) (Or (last_of (listed es f)) (last_of (listed (listed es f) g))), length_listed (listed es f) g, length_listed es f)
length_listed es (may a f) = omega (arith, one_more (listed es f) (May a (last_of (listed es f))), length_listed es f)
length_listed es (must a f) = omega (arith, one_more (listed es f) (Must a (last_of (listed es f))), length_listed es f)

-- Where an entry has begun before a phrase, there is room for it behind the phrase.
pub room : {l : Level} (a : Reader) {p q : Reader} {d n : ℕ} {from : Ctx l → State} {to : Formula → Ctx l → State} → p.begun ≡ a.begun + 1 → held p ≡ held a → Phrase p q d n from to → length (held q) < q.begun
room a {p} {q} begun same phrase = omega (arith, ap length phrase.entries, length_listed (held p) phrase.formula, ap length same, a.listed, begun, phrase.same.begun)
