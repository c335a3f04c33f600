-- How a formula is written as text, with round brackets only where the grammar asks for them. Assumes nothing.
use Rattle.std.specs.Prelude.{ℕ, ◌≤◌, List, ◌++◌, codes}
use Rattle.actions.specs.Text.{action_text}
use Rattle.hml.specs.Logic.{Formula}
use Rattle.hml.specs.Logic.Formula.{tru, fls, both, either, may, must}
use Rattle.grammar.specs.Grammar.{Level, unary, ands, ors}

-- A phrase at a place of the first level: in round brackets where the second, its own, binds less tightly.
abbrev pub placed : Level → Level → List ℕ → List ℕ
placed unary unary w = w
placed unary ands w = codes "(" ++ (w ++ codes ")")
placed unary ors w = codes "(" ++ (w ++ codes ")")
placed ands unary w = w
placed ands ands w = w
placed ands ors w = codes "(" ++ (w ++ codes ")")
placed ors l w = w

-- How a formula is written at a place of the level.
abbrev pub text_at : Level → Formula → List ℕ
text_at l tru = codes "tt"
text_at l fls = codes "ff"
text_at l (both f g) = placed l ands (text_at ands f ++ (codes "&" ++ text_at unary g))
text_at l (either f g) = placed l ors (text_at ors f ++ (codes "|" ++ text_at ands g))
text_at l (may a f) = codes "<" ++ (action_text a ++ (codes ">" ++ text_at unary f))
text_at l (must a f) = codes "[" ++ (action_text a ++ (codes "]" ++ text_at unary f))

-- How a formula is written.
abbrev pub formula_text : Formula → List ℕ
formula_text f = text_at ors f

-- Every action in the formula is one of 0 to 52.
abbrev pub AllActions : Formula → Type 0
AllActions tru = Unit {0}
AllActions fls = Unit {0}
AllActions (both f g) = AllActions f × AllActions g
AllActions (either f g) = AllActions f × AllActions g
AllActions (may a f) = (a ≤ 52) × AllActions f
AllActions (must a f) = (a ≤ 52) × AllActions f
