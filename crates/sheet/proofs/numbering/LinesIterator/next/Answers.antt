use Rattle.std.proofs.Common.{rules, ◌≡◌, ◌||◌, not, refl}
use Rattle.sheet.specs.Lines.{is_remark}
use Rattle.sheet.proofs.Skipping.{gives_first, none_left, fewer, headed_stays}
use Rattle.sheet.proofs.numbering.LinesIterator.next.Goals as goal
use Rattle.sheet.proofs.numbering.LinesIterator.next.Goals.{in-Header, in_default-matches}

pub returns-then-not-is_empty-clause-steps : goal.returns-then-not-is_empty-clause-steps
returns-then-not-is_empty-clause-steps c =
    let some = c.in-Some.ensures in
    let headed : (c.any_line.new.self.headed || c.match-matches.matches) ≡ (c.loop-line.self.headed || not (is_remark c.in-Some.line.now)) =
    elim c.match-matches.branch [
      | in-Header w ↦ rw (w.matches-is, w.in-Header.ensures.0, some.headed)
      | in_default-matches w ↦ rw (w.matches-is, ← some.headed) (headed_stays c.any_line.new.self.headed c.in-Some.line.now c.of-line.result c.of-line.ensures w.in_default-matches.not-Header)
    ]
    in
    gives_first c.in-Some.line.now c.loop-line.invariant some.line (search rules) some.count (rw some.headed at c.of-line.ensures) refl headed

pub returns-then-not-is_empty-clause-goes : goal.returns-then-not-is_empty-clause-goes
returns-then-not-is_empty-clause-goes c = let less = fewer (returns-then-not-is_empty-clause-steps c) in search rules

pub returns-clause-steps : goal.returns-clause-steps
returns-clause-steps c = none_left c.any_line.new.self c.loop-line.invariant c.in_default.ensures.line
