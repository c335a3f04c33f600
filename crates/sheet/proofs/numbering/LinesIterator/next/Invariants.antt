use Rattle.std.proofs.Common.{length}
use Rattle.sheet.specs.Reading.{unread}
use Rattle.sheet.proofs.Skipping.{Skips}
use Rattle.sheet.proofs.numbering.LinesIterator.next.Given as goal

-- only empty lines are passed so far
abbrev pub invariant-loop-line : goal.invariant-loop-line
invariant-loop-line l = Skips l.initial.self l.self

abbrev pub decreases-loop-line : goal.decreases-loop-line
decreases-loop-line l = length (unread l.self)
