-- Which entries stand in round brackets. Assumes nothing.
use Rattle.std.specs.Prelude.{Bool, true, false}
use Rattle.formula.specs.declared.entry.Entry.{Entry}
use Rattle.formula.specs.declared.entry.Entry.TheVariants.{And, Or}
use Rattle.grammar.specs.Grammar
use Rattle.grammar.specs.Grammar.{unary, ands, ors}
use Rattle.formula_writing.specs.declared.level.Level.{Level}
use Rattle.formula_writing.specs.declared.level.Level.TheVariants.{Unary, Ands, Ors}

-- The level of the grammar.
abbrev pub level_of : Level → Grammar.Level
level_of Unary = unary
level_of Ands = ands
level_of Ors = ors

-- Whether the formula of the entry stands in round brackets at a place of the level.
abbrev pub bracketed : Level → Entry → Bool
bracketed Unary (And i j) = true
bracketed Unary (Or i j) = true
bracketed Ands (Or i j) = true
bracketed l e = false
