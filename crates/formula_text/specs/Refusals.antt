-- The number and the place of a refusal. Assumes nothing.
use Rattle.std.specs.Prelude.{ℕ}
use Rattle.grammar.specs.Order.{bad}
use Rattle.grammar.specs.Verdict.{Out}
use Rattle.formula_text.specs.declared.refusal.TextRefusal.{TextRefusal}
use Rattle.formula_text.specs.declared.refusal.TextRefusal.TheVariants.{Malformed, TooMany, TooDeep}

abbrev pub number_of : TextRefusal → ℕ
number_of (Malformed at) = 31
number_of (TooMany at) = 32
number_of (TooDeep at) = 33

-- The byte, from 0.
abbrev pub place_of : TextRefusal → ℕ
place_of (Malformed at) = at
place_of (TooMany at) = at
place_of (TooDeep at) = at

-- The refusal as a verdict on a text.
abbrev pub refused : TextRefusal → Out
refused e = bad (number_of e) (place_of e)
