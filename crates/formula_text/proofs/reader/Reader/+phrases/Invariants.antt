use Rattle.std.proofs.Common.{◌+◌, ◌-◌, ◌*◌, length, ◌≡◌}
use Rattle.grammar.specs.Machine.{have}
use Rattle.formula_text.specs.Readers.{text, at}
use Rattle.formula_text.specs.Phrases.{Phrase, before_ands, before_ors, after_ors, PastAnds}
use Rattle.formula_text.proofs.reader.Reader.+phrases.Given as goal

abbrev pub decreases-modal : goal.decreases-modal
decreases-modal l = 4 * (length (text l.self.now) - at l.self.now)

abbrev pub decreases-bracketed : goal.decreases-bracketed
decreases-bracketed l = 4 * (length (text l.self.now) - at l.self.now)

abbrev pub decreases-unary : goal.decreases-unary
decreases-unary l = 4 * (length (text l.self.now) - at l.self.now) + 1

abbrev pub decreases-ands : goal.decreases-ands
decreases-ands l = 4 * (length (text l.self.now) - at l.self.now) + 2

abbrev pub decreases-ors : goal.decreases-ors
decreases-ors l = 4 * (length (text l.self.now) - at l.self.now) + 3

abbrev pub invariant-ands-loop-self : goal.invariant-ands-loop-self
invariant-ands-loop-self l =
    Phrase l.fn.self l.self l.fn.depth l.whole before_ands have
    × (l.depth ≡ l.fn.depth)

abbrev pub decreases-ands-loop-self : goal.decreases-ands-loop-self
decreases-ands-loop-self l = length (text l.self) - at l.self

abbrev pub invariant-ors-loop-self : goal.invariant-ors-loop-self
invariant-ors-loop-self l =
    Phrase l.fn.self l.self l.fn.depth l.whole before_ors after_ors
    × PastAnds l.self × (l.depth ≡ l.fn.depth)

abbrev pub decreases-ors-loop-self : goal.decreases-ors-loop-self
decreases-ors-loop-self l = length (text l.self) - at l.self
