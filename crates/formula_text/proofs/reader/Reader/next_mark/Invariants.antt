use Rattle.std.proofs.Common.{◌-◌, length}
use Rattle.formula_text.specs.Readers.{text, at, Spaced}
use Rattle.formula_text.proofs.reader.Reader.next_mark.Given as goal

abbrev pub invariant-loop-self : goal.invariant-loop-self
invariant-loop-self l = Spaced l.fn.self l.self

abbrev pub decreases-loop-self : goal.decreases-loop-self
decreases-loop-self l = length (text l.self) - at l.self
