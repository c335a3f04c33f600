use Rattle.std.proofs.Common.{◌+◌, ◌*◌}
use Rattle.formula_writing.proofs.Ranks.{rank}
use Rattle.formula_writing.proofs.writing.+write_at.Given as goal

-- A formula in round brackets is written again without them, and parts have smaller numbers.
abbrev pub decreases-write_at : goal.decreases-write_at
decreases-write_at l = 2 * l.number + rank l.level
