-- Levels in order. Assumes nothing.
use Rattle.std.proofs.Common.{ℕ}
use Rattle.formula_writing.specs.declared.level.Level.{Level}
use Rattle.formula_writing.specs.declared.level.Level.TheVariants.{Unary, Ands, Ors}

-- 0 where nothing stands in round brackets.
abbrev pub rank : Level → ℕ
rank Unary = 1
rank Ands = 1
rank Ors = 0
